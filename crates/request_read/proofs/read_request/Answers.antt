-- `request_read::read_request` meets its contract. A field that is there is a `Run`; each return is one law of the line's form, from the
-- runs before it, and with it come the answer's number and values. Assumes nothing.
use Rattle.std.proofs.Common.{rules, tests, sym, ap, ◌∙◌, ◌≡◌, List, ℕ, ◌+◌, refl, arith, true, false}
use Rattle.std.proofs.lemmas.Result.{err_from_is_err_and}
use Rattle.request.proofs.LineLaws.{form_first, form_second, form_third, form_fourth, form_longer, form_line, form_ends, number_is, values_is}
use Rattle.request.specs.Line.{Reading, number_of, values_of, request_number, request_values, request_of, field_character}
use Rattle.request_read.specs.Field.Laws.{field_ok, field_err}
use Rattle.request_read.specs.Part.{front}
use Rattle.request_read.proofs.read_request.Goals as goal

-- with the answer come its number and values
answered : (s : List ℕ) (x : Reading) → x ≡ request_of s
    → (x ≡ request_of s) × ((number_of x ≡ request_number s) × (values_of x ≡ request_values s))
answered s x e = (e, (ap number_of e ∙ number_is s, ap values_of e ∙ values_is s))

pub returns-in_err-a : goal.returns-in_err-a
returns-in_err-a c =
    let s = c.args.text.now in
    let e = err_from_is_err_and c.from_residual.result c.from_residual.ensures.1 in
    let f = field_err (field_character false) s 0 32 _ (c.in_err-a.ensures.end (field_character false) (λ b x p. search (rules, tests))) in
    let p = answered s c.from_residual.result (rw (e.1, e.2, f.0) (sym (form_first s f.1))) in
    record { answer = p.0; number = p.1.0; values = p.1.1 }

pub returns-in_err-b : goal.returns-in_err-b
returns-in_err-b c =
    let s = c.args.text.now in
    let first = field_ok (field_character false) s 0 32 _ (c.in_ok-a.ensures.end (field_character false) (λ b x p. search (rules, tests))) in
    let e = err_from_is_err_and c.from_residual-in_err-b.result c.from_residual-in_err-b.ensures.1 in
    let f = field_err (field_character true) s (c.in_ok-a.a + 1) 32 _ (c.in_err-b.ensures.end (field_character true) (λ b x p. search (rules, tests))) in
    let p = answered s c.from_residual-in_err-b.result (rw (e.1, e.2, f.0) (sym (form_second first f.1))) in
    record { answer = p.0; number = p.1.0; values = p.1.1 }

pub returns-in_err-c : goal.returns-in_err-c
returns-in_err-c c =
    let s = c.args.text.now in
    let first = field_ok (field_character false) s 0 32 _ (c.in_ok-a.ensures.end (field_character false) (λ b x p. search (rules, tests))) in
    let second = field_ok (field_character true) s (c.in_ok-a.a + 1) 32 _ (c.in_ok-b.ensures.end (field_character true) (λ b x p. search (rules, tests))) in
    let e = err_from_is_err_and c.from_residual-in_err-c.result c.from_residual-in_err-c.ensures.1 in
    let f = field_err (field_character false) s (c.in_ok-b.b + 1) 32 _ (c.in_err-c.ensures.end (field_character false) (λ b x p. search (rules, tests))) in
    let p = answered s c.from_residual-in_err-c.result (rw (e.1, e.2, f.0) (sym (form_third first second f.1))) in
    record { answer = p.0; number = p.1.0; values = p.1.1 }

pub returns-in_err-d : goal.returns-in_err-d
returns-in_err-d c =
    let s = c.args.text.now in
    let first = field_ok (field_character false) s 0 32 _ (c.in_ok-a.ensures.end (field_character false) (λ b x p. search (rules, tests))) in
    let second = field_ok (field_character true) s (c.in_ok-a.a + 1) 32 _ (c.in_ok-b.ensures.end (field_character true) (λ b x p. search (rules, tests))) in
    let third = field_ok (field_character false) s (c.in_ok-b.b + 1) 32 _ (c.in_ok-c.ensures.end (field_character false) (λ b x p. search (rules, tests))) in
    let e = err_from_is_err_and c.from_residual-in_err-d.result c.from_residual-in_err-d.ensures.1 in
    let f = field_err (field_character false) s (c.in_ok-c.c + 1) 10 _ (c.in_err-d.ensures.end (field_character false) (λ b x p. search (rules, tests))) in
    let p = answered s c.from_residual-in_err-d.result (rw (e.1, e.2, f.0) (sym (form_fourth first second third f.1))) in
    record { answer = p.0; number = p.1.0; values = p.1.1 }

pub returns-then-d-text : goal.returns-then-d-text
returns-then-d-text c =
    let s = c.args.text.now in
    let first = field_ok (field_character false) s 0 32 _ (c.in_ok-a.ensures.end (field_character false) (λ b x p. search (rules, tests))) in
    let second = field_ok (field_character true) s (c.in_ok-a.a + 1) 32 _ (c.in_ok-b.ensures.end (field_character true) (λ b x p. search (rules, tests))) in
    let third = field_ok (field_character false) s (c.in_ok-b.b + 1) 32 _ (c.in_ok-c.ensures.end (field_character false) (λ b x p. search (rules, tests))) in
    let fourth = field_ok (field_character false) s (c.in_ok-c.c + 1) 10 _ (c.in_ok-d.ensures.end (field_character false) (λ b x p. search (rules, tests))) in
    let p = answered _ _ (sym (form_longer first second third fourth (λ e. omega arith))) in
    record { answer = p.0; number = p.1.0; values = p.1.1 }

pub returns : goal.returns
returns c =
    let s = c.args.text.now in
    let first = field_ok (field_character false) s 0 32 _ (c.in_ok-a.ensures.end (field_character false) (λ b x p. search (rules, tests))) in
    let second = field_ok (field_character true) s (c.in_ok-a.a + 1) 32 _ (c.in_ok-b.ensures.end (field_character true) (λ b x p. search (rules, tests))) in
    let third = field_ok (field_character false) s (c.in_ok-b.b + 1) 32 _ (c.in_ok-c.ensures.end (field_character false) (λ b x p. search (rules, tests))) in
    let fourth = field_ok (field_character false) s (c.in_ok-c.c + 1) 10 _ (c.in_ok-d.ensures.end (field_character false) (λ b x p. search (rules, tests))) in
    let p = answered _ _ (sym (form_line first second third fourth (omega arith) _ (c.numbers.ensures s _ _ _ _
    (record { ends = form_ends first second third fourth; is_n = front s c.in_ok-a.a; is_table = refl; is_r = refl; is_m = refl })))) in
    record { answer = p.0; number = p.1.0; values = p.1.1 }
