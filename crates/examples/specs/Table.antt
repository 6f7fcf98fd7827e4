-- P1 to P11, the refused requests, and requests with free rows, each a row with what the definitions compute and what is stated, both as
-- numbers; the rows are proved by a single computation. Assumes nothing.
use Rattle.std.specs.Prelude.{◌≡◌, refl, List, [], ◌∷◌, map, ℕ, ◌+◌, ◌*◌, length, replicate, take}
use Rattle.std.proofs.Math.IntN as Z
use Rattle.prelude.specs.Blocks.{each, flatten}
use Rattle.prelude.specs.Lists.{first_of, equal_lists}
use Rattle.request.specs.declared.Request.{Request}
use Rattle.request.specs.Numbers.{asked, overlapping, refusal_of}
use Rattle.rows.specs.Rows.{set_below, kind_of, off_below, rows_of, literal_on}
use Rattle.request.specs.Line.{number_of, values_of as reading_values, request_of, request_number, line_form, numbers_refusal, run_end, leading, ended_by, single, is_table, marked}
use Rattle.network.specs.declared.Network.{Network}
use Rattle.network.specs.Check.{number_of as check_number, values_of, checked_of, rows_answer, first_wrong, fitting, literals_low, labels_lowest, near, nearer, touching, at_sink, apart, part}
use Rattle.network.specs.Value.{listed}
use Rattle.formula.specs.Formula.{pair_number, X, P, L, W, S, transitivity, choice, choices, some_step, closed_step, first_step, link_step, last_step, on_row, net_sides, switch_sides, off_row, row_variables, row_clauses, rows_from, formula, formula_of}
use Rattle.formula.specs.Count.{on_row_count, on_row_literals, split, variables_before, variable_count, clauses_before, clause_count, literals_before, literal_count}
use Rattle.formula.specs.Pairs.{pairs_before, triples_before}
use Rattle.formula.specs.Number.{clause_of}
use Rattle.numeral.specs.Number.{digits_at, number_at, literal_at as word_at}
use Rattle.answer.specs.Lines.{line_end, stands_at, form_from, form_at}
use Rattle.answer.specs.Values.{refused_by, kept_by, named_from, complete, assigned, holding}
use Rattle.answer.specs.Decode.{lowest, literal_for, label_for, decoded}
use Rattle.answer.specs.Reading.{passed, valued, line_step, lines_from, ended, reading_of}
use Rattle.lrat.specs.Words.{words_from, words_at, literals_at, ids_at, run_from, run_at, deletion_at, hints_after, addition_at, line_after, line_at}
use Rattle.added.specs.Record.{fits, id_of, offset_of, length_of, recorded, emptied, first_from, first_with}
use Rattle.lrat.specs.State.{stands_in, clause_at, hints_of, without, delete_all}
use Rattle.lrat.specs.Check.{concluded, add_step, delete_step, step_of, line_step as check_step, lines_from as check_from, lines_of}
use Rattle.formula_clauses.specs.Store.{room_refusal}
use Rattle.lrat.specs.Outcome.{number_of as result_number, values_of as result_values, outcome_of}
use Rattle.lrat_check.specs.Refutation.{Lent, lent, refusal_before, lines_for, check_answer}
use Rattle.settle.specs.Settle.{verdict_number, verdict_values, verdict_below, settlement}
use Rattle.reports.specs.Reports.{number_text, switch_text, shown_switches, sink_text, network_text, refused_text, fails_text, works_text, least_text}
use Rattle.reports.specs.Report.{report_text}
use Rattle.text.specs.Decimal.{digits as numeral, decimal}
use Rattle.text.specs.Text.{literal_text, literals_text, line_text}
use Rattle.dimacs.specs.File.{head_text, body_text, file_text}

-- what is computed, and what document 01, or for free rows document 02 and its readings, states
pub record Row : Type 0 where
  pub computed : List ℕ
  pub stated : List ℕ

-- a network of r switches, in arrays of 7 literals and 16 labels
network : ℕ → List ℕ → List ℕ → Network
network r literals labels = record { r = r; literals = literals; labels = labels }

-- the answer of checking a network: its refusal number, then the wrong row if there is one
checked : Request → Network → List ℕ
checked q w = check_number (checked_of q w) ∷ values_of (checked_of q w)

-- the refusal of a request read from text, 0 where it is taken, then its n, table, free rows, r and M
reading : List ℕ → List ℕ
reading s = number_of (request_of s) ∷ reading_values (request_of s)

-- the network of P9 and P10 against a request of two inputs and four switches with these on rows, free rows and series bound
exclusive : ℕ → ℕ → ℕ → List ℕ
exclusive table free m =
    checked (asked 2 table free 4 m)
    (network 4 (0 ∷ 3 ∷ 2 ∷ 1 ∷ 0 ∷ 0 ∷ 0 ∷ []) (0 ∷ 0 ∷ 2 ∷ 2 ∷ 4 ∷ 0 ∷ 6 ∷ 6 ∷ 4 ∷ 4 ∷ 0 ∷ 0 ∷ 0 ∷ 0 ∷ 0 ∷ 0 ∷ []))

-- the request "1 00 0 0"
first_request : Request
first_request = asked 1 0 0 0 0

-- its file
first_file : List ℕ
first_file =
    -- p cnf 5 8
    112 ∷ 32 ∷ 99 ∷ 110 ∷ 102 ∷ 32 ∷ 53 ∷ 32 ∷ 56 ∷ 10
    -- -2 0
    ∷ 45 ∷ 50 ∷ 32 ∷ 48 ∷ 10
    -- 3 0
    ∷ 51 ∷ 32 ∷ 48 ∷ 10
    -- -1 -2 3 0
    ∷ 45 ∷ 49 ∷ 32 ∷ 45 ∷ 50 ∷ 32 ∷ 51 ∷ 32 ∷ 48 ∷ 10
    -- -1 2 -3 0
    ∷ 45 ∷ 49 ∷ 32 ∷ 50 ∷ 32 ∷ 45 ∷ 51 ∷ 32 ∷ 48 ∷ 10
    -- -4 0
    ∷ 45 ∷ 52 ∷ 32 ∷ 48 ∷ 10
    -- 5 0
    ∷ 53 ∷ 32 ∷ 48 ∷ 10
    -- -1 -4 5 0
    ∷ 45 ∷ 49 ∷ 32 ∷ 45 ∷ 52 ∷ 32 ∷ 53 ∷ 32 ∷ 48 ∷ 10
    -- -1 4 -5 0
    ∷ 45 ∷ 49 ∷ 32 ∷ 52 ∷ 32 ∷ 45 ∷ 53 ∷ 32 ∷ 48 ∷ 10
    ∷ []

-- V and C of a request, C as the number of its clauses
variables_and_clauses : Request → List ℕ
variables_and_clauses q = variable_count q ∷ length (formula_of q) ∷ []

-- "1 01 1 1"
one_switch : Request
one_switch = asked 1 2 0 1 1

-- an answer to it
one_answer : List ℕ
one_answer =
    -- s SATISFIABLE
    115 ∷ 32 ∷ 83 ∷ 65 ∷ 84 ∷ 73 ∷ 83 ∷ 70 ∷ 73 ∷ 65 ∷ 66 ∷ 76 ∷ 69 ∷ 10
    -- v 1 -2 -3 -4 -5 6 7 -8 0
    ∷ 118 ∷ 32 ∷ 49 ∷ 32 ∷ 45 ∷ 50 ∷ 32 ∷ 45 ∷ 51 ∷ 32 ∷ 45 ∷ 52 ∷ 32 ∷ 45 ∷ 53 ∷ 32 ∷ 54 ∷ 32 ∷ 55 ∷ 32 ∷ 45 ∷ 56 ∷ 32 ∷ 48 ∷ 10
    ∷ []

-- the refusal of an answer, then the labels of the network
answered : Request → List ℕ → List ℕ
answered q t = (reading_of q t).refusal ∷ take (2 * q.r + 2) (reading_of q t).network.labels

-- "1 01 0 1": no switch, and the table of the input itself
no_switch : Request
no_switch = asked 1 2 0 0 1

-- slices that are long enough for it
slices : Lent
slices = lent (replicate 20 (Z.pos 0)) (replicate 20 0) (replicate 4 0) (replicate 10 0)

-- the number of checking a refutation of it, and the number of added records
refuted : List ℕ → List ℕ
refuted t = result_number (check_answer no_switch t slices) ∷ result_values (check_answer no_switch t slices)

-- a refutation of it
no_refutation : List ℕ
no_refutation =
    -- 7 0 5 6 1 2 4 0
    55 ∷ 32 ∷ 48 ∷ 32 ∷ 53 ∷ 32 ∷ 54 ∷ 32 ∷ 49 ∷ 32 ∷ 50 ∷ 32 ∷ 52 ∷ 32 ∷ 48 ∷ 10 ∷ []

-- the same of the line "20 -1 0 1 2 4 0", which is accepted, and of others after it
gapped : List ℕ → List ℕ
gapped t = refuted (50 ∷ 48 ∷ 32 ∷ 45 ∷ 49 ∷ 32 ∷ 48 ∷ 32 ∷ 49 ∷ 32 ∷ 50 ∷ 32 ∷ 52 ∷ 32 ∷ 48 ∷ 10 ∷ t)

-- the report for "1 01 1 1", its answer and that refutation
one_report : List ℕ
one_report = report_text (49 ∷ 32 ∷ 48 ∷ 49 ∷ 32 ∷ 49 ∷ 32 ∷ 49 ∷ 10 ∷ []) one_answer no_refutation slices

-- what settling them says: its number, then its values
one_settled : List ℕ
one_settled =
    verdict_number (settlement one_switch one_answer no_refutation slices)
    ∷ verdict_values 1 (settlement one_switch one_answer no_refutation slices)

-- the report for a request of no switches, with the answer "s SATISFIABLE", "v 1 0"
none_report : List ℕ → List ℕ
none_report request =
    report_text request
    (115 ∷ 32 ∷ 83 ∷ 65 ∷ 84 ∷ 73 ∷ 83 ∷ 70 ∷ 73 ∷ 65 ∷ 66 ∷ 76 ∷ 69 ∷ 10 ∷ 118 ∷ 32 ∷ 49 ∷ 32 ∷ 48 ∷ 10 ∷ [])
    []
    slices

-- r = M = 7, n = 4, all on
largest : Request
largest = asked 4 65535 0 7 7

pub rows : List Row
rows =
    -- P1: the file, byte by byte
    record { computed = file_text first_request; stated = first_file }
    -- P2: "1 01 1 1": V 15, C 38
    ∷ record { computed = variables_and_clauses one_switch; stated = 15 ∷ 38 ∷ [] }
    -- P3: document 01 states V 1,856 and C 27,547; T, 77,088, before them, is not stated there but worked out by us
    ∷ record { computed = length (flatten (formula_of largest)) ∷ variables_and_clauses largest; stated = 77088 ∷ 1856 ∷ 27547 ∷ [] }
    -- P4: "7 0 5 6 1 2 4 0": none
    ∷ record { computed = refuted no_refutation; stated = 0 ∷ 0 ∷ [] }
    -- P5: hints 5 6 1 2: 21
    ∷ record { computed = refuted (55 ∷ 32 ∷ 48 ∷ 32 ∷ 53 ∷ 32 ∷ 54 ∷ 32 ∷ 49 ∷ 32 ∷ 50 ∷ 32 ∷ 48 ∷ 10 ∷ []); stated = 21 ∷ 0 ∷ [] }
    -- P6: hints 5 6 3: 20
    ∷ record { computed = refuted (55 ∷ 32 ∷ 48 ∷ 32 ∷ 53 ∷ 32 ∷ 54 ∷ 32 ∷ 51 ∷ 32 ∷ 48 ∷ 10 ∷ []); stated = 20 ∷ 0 ∷ [] }
    -- P7: id 8, which need not be the next: none
    ∷ record { computed = refuted (56 ∷ 32 ∷ 48 ∷ 32 ∷ 53 ∷ 32 ∷ 54 ∷ 32 ∷ 49 ∷ 32 ∷ 50 ∷ 32 ∷ 52 ∷ 32 ∷ 48 ∷ 10 ∷ []); stated = 0 ∷ 0 ∷ [] }
    -- "6 0 5 6 1 2 4 0": an id at C is 17
    ∷ record { computed = refuted (54 ∷ 32 ∷ 48 ∷ 32 ∷ 53 ∷ 32 ∷ 54 ∷ 32 ∷ 49 ∷ 32 ∷ 50 ∷ 32 ∷ 52 ∷ 32 ∷ 48 ∷ 10 ∷ []); stated = 17 ∷ 0 ∷ [] }
    -- ids with gaps, "21 0 5 6 20 0" after a line with the id 20: none, with one added clause
    ∷ record { computed = gapped (50 ∷ 49 ∷ 32 ∷ 48 ∷ 32 ∷ 53 ∷ 32 ∷ 54 ∷ 32 ∷ 50 ∷ 48 ∷ 32 ∷ 48 ∷ 10 ∷ []); stated = 0 ∷ 1 ∷ [] }
    -- "21 0 5 6 19 0": a number that was left out does not stand, 19
    ∷ record { computed = gapped (50 ∷ 49 ∷ 32 ∷ 48 ∷ 32 ∷ 53 ∷ 32 ∷ 54 ∷ 32 ∷ 49 ∷ 57 ∷ 32 ∷ 48 ∷ 10 ∷ []); stated = 19 ∷ 1 ∷ [] }
    -- "20 0 5 6 20 0": the id comes again, 17
    ∷ record { computed = gapped (50 ∷ 48 ∷ 32 ∷ 48 ∷ 32 ∷ 53 ∷ 32 ∷ 54 ∷ 32 ∷ 50 ∷ 48 ∷ 32 ∷ 48 ∷ 10 ∷ []); stated = 17 ∷ 1 ∷ [] }
    -- "21 d 20 0", "22 0 5 6 20 0": a deleted clause does not stand, 19
    ∷ record { computed = gapped (50 ∷ 49 ∷ 32 ∷ 100 ∷ 32 ∷ 50 ∷ 48 ∷ 32 ∷ 48 ∷ 10 ∷ 50 ∷ 50 ∷ 32 ∷ 48 ∷ 32 ∷ 53 ∷ 32 ∷ 54 ∷ 32 ∷ 50 ∷ 48 ∷ 32 ∷ 48 ∷ 10 ∷ []); stated = 19 ∷ 1 ∷ [] }
    -- "21 4 0 5 0": four entries are no room for a second record, 22
    ∷ record { computed = gapped (50 ∷ 49 ∷ 32 ∷ 52 ∷ 32 ∷ 48 ∷ 32 ∷ 53 ∷ 32 ∷ 48 ∷ 10 ∷ []); stated = 22 ∷ 1 ∷ [] }
    -- P8: labels 0 0 2 2
    ∷ record { computed = answered one_switch one_answer; stated = 0 ∷ 0 ∷ 0 ∷ 2 ∷ 2 ∷ [] }
    -- and, with P4's refutation, the report "least 1", "0 0 0 2", "sink 2"
    ∷ record {
      computed = one_report;
      stated = 108 ∷ 101 ∷ 97 ∷ 115 ∷ 116 ∷ 32 ∷ 49 ∷ 10
          ∷ 48 ∷ 32 ∷ 48 ∷ 32 ∷ 48 ∷ 32 ∷ 50 ∷ 10
          ∷ 115 ∷ 105 ∷ 110 ∷ 107 ∷ 32 ∷ 50 ∷ 10 ∷ [];
    }
    -- which settling says in numbers: nothing is refused, least, k = 1
    ∷ record { computed = one_settled; stated = 0 ∷ 0 ∷ 1 ∷ [] }
    -- an example of ours, "1 11 0 1", whose r is not its M: "least 0", "sink 0"
    ∷ record {
      computed = none_report (49 ∷ 32 ∷ 49 ∷ 49 ∷ 32 ∷ 48 ∷ 32 ∷ 49 ∷ 10 ∷ []);
      stated = 108 ∷ 101 ∷ 97 ∷ 115 ∷ 116 ∷ 32 ∷ 48 ∷ 10 ∷ 115 ∷ 105 ∷ 110 ∷ 107 ∷ 32 ∷ 48 ∷ 10 ∷ [];
    }
    -- P9: "does"
    ∷ record { computed = exclusive 6 0 2; stated = 0 ∷ [] }
    -- P10: row 1
    ∷ record { computed = exclusive 6 0 1; stated = 0 ∷ 1 ∷ [] }
    -- P11: "1 11 0 0", labels 0 0: does
    ∷ record { computed = checked (asked 1 3 0 0 0) (network 0 (replicate 7 0) (replicate 16 0)); stated = 0 ∷ [] }
    -- P4's request "1 01 0 1", where r and M differ: taken, with n 1, table 2, no free row, r 0, M 1
    ∷ record { computed = reading (49 ∷ 32 ∷ 48 ∷ 49 ∷ 32 ∷ 48 ∷ 32 ∷ 49 ∷ 10 ∷ []); stated = 0 ∷ 1 ∷ 2 ∷ 0 ∷ 0 ∷ 1 ∷ [] }
    -- refused: empty 1
    ∷ record { computed = reading []; stated = 1 ∷ [] }
    -- "5 01 1 1": n = 5 is 2
    ∷ record { computed = reading (53 ∷ 32 ∷ 48 ∷ 49 ∷ 32 ∷ 49 ∷ 32 ∷ 49 ∷ 10 ∷ []); stated = 2 ∷ [] }
    -- "1 011 1 1": table 011 for n = 1 is 3
    ∷ record { computed = reading (49 ∷ 32 ∷ 48 ∷ 49 ∷ 49 ∷ 32 ∷ 49 ∷ 32 ∷ 49 ∷ 10 ∷ []); stated = 3 ∷ [] }
    -- "1 01 8 1": r = 8 is 4
    ∷ record { computed = reading (49 ∷ 32 ∷ 48 ∷ 49 ∷ 32 ∷ 56 ∷ 32 ∷ 49 ∷ 10 ∷ []); stated = 4 ∷ [] }
    -- "1 01 1 8": M = 8 is 5
    ∷ record { computed = reading (49 ∷ 32 ∷ 48 ∷ 49 ∷ 32 ∷ 49 ∷ 32 ∷ 56 ∷ 10 ∷ []); stated = 5 ∷ [] }
    -- free rows: "1 0- 1 1" is taken, with table 0 and free rows 2
    ∷ record { computed = reading (49 ∷ 32 ∷ 48 ∷ 45 ∷ 32 ∷ 49 ∷ 32 ∷ 49 ∷ 10 ∷ []); stated = 0 ∷ 1 ∷ 0 ∷ 2 ∷ 1 ∷ 1 ∷ [] }
    -- "1 -2 1 1" is 3
    ∷ record { computed = reading (49 ∷ 32 ∷ 45 ∷ 50 ∷ 32 ∷ 49 ∷ 32 ∷ 49 ∷ 10 ∷ []); stated = 3 ∷ [] }
    -- "1 0-- 1 1" is 3
    ∷ record { computed = reading (49 ∷ 32 ∷ 48 ∷ 45 ∷ 45 ∷ 32 ∷ 49 ∷ 32 ∷ 49 ∷ 10 ∷ []); stated = 3 ∷ [] }
    -- "9 -- 1 1" is 2
    ∷ record { computed = reading (57 ∷ 32 ∷ 45 ∷ 45 ∷ 32 ∷ 49 ∷ 32 ∷ 49 ∷ 10 ∷ []); stated = 2 ∷ [] }
    -- "1 01 - 1" is 1
    ∷ record { computed = reading (49 ∷ 32 ∷ 48 ∷ 49 ∷ 32 ∷ 45 ∷ 32 ∷ 49 ∷ 10 ∷ []); stated = 1 ∷ [] }
    -- as numbers: n = 1, table 5, free 1 is 3; table 0, free 5 is 3; table 1, free 1, r = 9 is 24; table 1, free 2, r = 9 is 4
    ∷ record {
      computed = refusal_of (asked 1 5 1 1 1) ∷ refusal_of (asked 1 0 5 1 1) ∷ refusal_of (asked 1 1 1 9 1) ∷ refusal_of (asked 1 1 2 9 1) ∷ [];
      stated = 3 ∷ 3 ∷ 24 ∷ 4 ∷ [];
    }
    -- "1 -- 0 0": the file is "p cnf 1 0" and a newline
    ∷ record { computed = file_text (asked 1 0 3 0 0); stated = 112 ∷ 32 ∷ 99 ∷ 110 ∷ 102 ∷ 32 ∷ 49 ∷ 32 ∷ 48 ∷ 10 ∷ [] }
    -- "1 0- 1 1": P2's sizes without those of its on row, 3 variables and 8 clauses
    ∷ record { computed = variables_and_clauses (asked 1 0 2 1 1); stated = 12 ∷ 30 ∷ [] }
    -- P10 with row 1 free: row 2, the next of the on and off rows that is wrong
    ∷ record { computed = exclusive 4 2 1; stated = 0 ∷ 2 ∷ [] }
    -- P10 with rows 1 and 2 free: "does"
    ∷ record { computed = exclusive 0 6 1; stated = 0 ∷ [] }
    -- "1 -1 0 1": "least 0", "sink 0", where P8's table 01 needs one switch
    ∷ record {
      computed = none_report (49 ∷ 32 ∷ 45 ∷ 49 ∷ 32 ∷ 48 ∷ 32 ∷ 49 ∷ 10 ∷ []);
      stated = 108 ∷ 101 ∷ 97 ∷ 115 ∷ 116 ∷ 32 ∷ 48 ∷ 10 ∷ 115 ∷ 105 ∷ 110 ∷ 107 ∷ 32 ∷ 48 ∷ 10 ∷ [];
    }
    ∷ []

-- each row's computed numbers are those stated
pub holds : map (λ (x : Row). x.computed) rows ≡ map (λ (x : Row). x.stated) rows
unfolding rows no_switch slices refuted gapped no_refutation one_report one_settled none_report verdict_below settlement number_text switch_text shown_switches sink_text network_text refused_text fails_text works_text least_text report_text
    words_from words_at literals_at ids_at run_from run_at deletion_at hints_after addition_at line_after line_at stands_in clause_at hints_of without delete_all
    fits id_of offset_of length_of recorded emptied first_from first_with
    concluded add_step delete_step step_of check_step check_from lines_of room_refusal refusal_before outcome_of lines_for check_answer clause_count literal_count clauses_before literals_before
    on_row_count on_row_literals pairs_before triples_before
    equal_lists one_switch one_answer answered digits_at number_at word_at line_end stands_at form_from form_at refused_by kept_by named_from complete assigned holding
    lowest literal_for label_for decoded passed valued line_step lines_from ended reading_of clause_of exclusive checked reading network request_of request_number line_form numbers_refusal run_end leading ended_by single is_table marked
    first_request first_file variables_and_clauses largest each flatten pair_number X P L W S transitivity choice choices some_step closed_step first_step
    link_step last_step on_row net_sides switch_sides off_row row_variables row_clauses rows_from formula formula_of split set_below kind_of off_below overlapping variables_before variable_count
    numeral decimal literal_text literals_text line_text head_text body_text file_text refusal_of rows_of literal_on checked_of rows_answer first_wrong fitting literals_low labels_lowest listed first_of near nearer touching at_sink apart part
holds = refl
