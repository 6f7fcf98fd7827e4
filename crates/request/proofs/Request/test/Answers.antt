-- `request::Request::test` meets its contract. Each return is one law of the test, from the facts of the branches passed; a shift by 2^n leaves
-- something just where a number has a bit at or above 2^n, and the "and" of two numbers just where they have a bit in common. Assumes nothing.
use mathlib.Core.Path.{◌≡◌, sym}
use Rattle.std.specs.Int.Bits.{bit_and}
use Prim.Native.Nat.{◌≤◌, ◌<◌, ◌^◌}
use native.Mathlib.Omega.{arith}
use Rattle.request.proofs.NumbersLaws.{and_none, and_common, refusal_low, refusal_high, refusal_table, refusal_free, refusal_both, refusal_r, refusal_m, good_refusal, rows_shl, rows_high, table_over, table_within}
use Rattle.request.specs.Numbers.{inputs_most, switches_most, series_most, Good}
use Rattle.request.specs.declared.Request.{Request}
use Rattle.request.proofs.Request.test.Goals as goal

pub returns-then-self-lt1-clause-number : goal.returns-then-self-lt1-clause-number
returns-then-self-lt1-clause-number c = sym (refusal_low _ (omega arith))

pub returns-then-self-gt-INPUTS-clause-number : goal.returns-then-self-gt-INPUTS-clause-number
returns-then-self-gt-INPUTS-clause-number c = sym (refusal_high _ (omega arith))

pub overflow_shr-self : goal.overflow_shr-self
overflow_shr-self c =
    let n = c.args.self.n in
    let h : n ≤ inputs_most = omega arith in
    let z = rows_shl n 32 h (omega arith) in
    omega (arith, rows_high n h)

pub returns-then-self-rows-ne0-clause-number : goal.returns-then-self-rows-ne0-clause-number
returns-then-self-rows-ne0-clause-number c =
    let q = c.args.self in
    sym (refusal_table q (omega arith) (omega arith) (table_over q.table q.n (omega arith) (λ e. omega arith)))

pub overflow_shr-self-2 : goal.overflow_shr-self-2
overflow_shr-self-2 c =
    let n = c.args.self.n in
    let h : n ≤ inputs_most = omega arith in
    let z = rows_shl n 32 h (omega arith) in
    omega (arith, rows_high n h)

pub returns-then-self-rows-ne0-2-clause-number : goal.returns-then-self-rows-ne0-2-clause-number
returns-then-self-rows-ne0-2-clause-number c =
    let q = c.args.self in
    let table-in : q.table < 2 ^ (2 ^ q.n) = table_within q.table q.n (omega arith) (omega arith) in
    sym (refusal_free q (omega arith) (omega arith) table-in (table_over q.free q.n (omega arith) (λ e. omega arith)))

pub returns-then-self-ne0-clause-number : goal.returns-then-self-ne0-clause-number
returns-then-self-ne0-clause-number c =
    let q = c.args.self in
    let table-in : q.table < 2 ^ (2 ^ q.n) = table_within q.table q.n (omega arith) (omega arith) in
    let free_in : q.free < 2 ^ (2 ^ q.n) = table_within q.free q.n (omega arith) (omega arith) in
    let b = and_common (2 ^ q.n) q.table q.free table-in (omega arith) in
    sym (refusal_both q (omega arith) (omega arith) table-in free_in b.0 b.1 b.2 b.3)

pub returns-then-self-gt-SWITCHES-clause-number : goal.returns-then-self-gt-SWITCHES-clause-number
returns-then-self-gt-SWITCHES-clause-number c =
    let q = c.args.self in
    let table-in : q.table < 2 ^ (2 ^ q.n) = table_within q.table q.n (omega arith) (omega arith) in
    let free_in : q.free < 2 ^ (2 ^ q.n) = table_within q.free q.n (omega arith) (omega arith) in
    let none : bit_and q.table q.free ≡ 0 = omega arith in
    sym (refusal_r q (omega arith) (omega arith) table-in free_in (λ k h. and_none q.table q.free none k) (omega arith))

pub returns-then-self-gt-SERIES-clause-number : goal.returns-then-self-gt-SERIES-clause-number
returns-then-self-gt-SERIES-clause-number c =
    let q = c.args.self in
    let table-in : q.table < 2 ^ (2 ^ q.n) = table_within q.table q.n (omega arith) (omega arith) in
    let free_in : q.free < 2 ^ (2 ^ q.n) = table_within q.free q.n (omega arith) (omega arith) in
    let none : bit_and q.table q.free ≡ 0 = omega arith in
    sym (refusal_m q (omega arith) (omega arith) table-in free_in (λ k h. and_none q.table q.free none k) (omega arith) (omega arith))

-- a request that passes each test is good
tested : (q : Request) → 1 ≤ q.n → (h : q.n ≤ inputs_most) → q.table < 2 ^ (2 ^ q.n) → q.free < 2 ^ (2 ^ q.n) → bit_and q.table q.free ≡ 0 → q.r ≤ switches_most → q.m ≤ series_most → Good q
tested q l h t f none r m =
    record { n_low = l; n_high = h; table_low = t; free_low = f; one_kind = λ k h. and_none q.table q.free none k; r_high = r; m_high = m }

pub invariant_of-result : goal.invariant_of-result
invariant_of-result c =
    let q = c.args.self in
    record {
      good =
          tested q (omega arith) (omega arith) (table_within q.table q.n (omega arith) (omega arith))
          (table_within q.free q.n (omega arith) (omega arith))
          (omega arith)
          (omega arith)
          (omega arith);
    }

pub returns-clause-number : goal.returns-clause-number
returns-clause-number c =
    let q = c.args.self in
    sym (good_refusal q
    (tested q (omega arith) (omega arith) (table_within q.table q.n (omega arith) (omega arith))
    (table_within q.free q.n (omega arith) (omega arith))
    (omega arith)
    (omega arith)
    (omega arith)))
