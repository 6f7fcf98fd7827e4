-- Laws of texts by value: one byte more, a list written at the end, one addition after another, and a text from nothing. Assumes nothing.
use Rattle.std.specs.Prelude.{◌≡◌, List, [], ◌∷◌, ◌++◌, ℕ, ◌+◌, ◌≤◌, ◌<◌, length, get_or, take, drop}
use Rattle.std.proofs.Common.{sym, ap, ap₂, ◌∙◌, append_assoc, append-nil, add-one, arith, length-append, length-take-le, take-suc, take_at}
use Rattle.prelude.specs.Written.{written}
use Rattle.prelude.specs.Written.Laws.{Wrote}
use Rattle.reports.specs.Texts.{shown, Added}
use Rattle.reports.specs.declared.buffer.Text.{Text}

-- the part of a written list up to the end of what was written
written_front : (l : List ℕ) (at : ℕ) (xs : List ℕ) → at + length xs ≤ length l → take (at + length xs) (written l at xs) ≡ take at l ++ xs
unfolding written
written_front l at xs h =
    let e : length (take at l ++ xs) ≡ at + length xs = length-append (take at l) xs ∙ ap (λ (k : ℕ). k + length xs) (length-take-le at l (omega arith)) in
    ap (take (at + length xs)) (sym (append_assoc (take at l) xs (drop (at + length xs) l))) ∙ take_at (take at l ++ xs) (drop (at + length xs) l) (at + length xs) e

-- nothing added
pub added_none : (t : Text) → Added t [] 0 t
added_none t = record { text = sym (append-nil (shown t)); long = omega arith }

-- a list written at the end of a text's bytes is added to it
pub added_wrote : (t : Text) (xs : List ℕ) (n : ℕ) {k : ℕ} {m : List ℕ} → t.count + length xs ≤ length t.bytes → length xs ≤ n
    → Wrote t.bytes t.count xs k m → (u : Text) → u.bytes ≡ m → u.count ≡ k → Added t xs n u
unfolding shown
added_wrote t xs n h b (e, p) u f g =
    record { text = ap₂ take (g ∙ e) (f ∙ p) ∙ written_front t.bytes t.count xs h; long = omega arith }

-- one addition after another
pub added_then : {t u v : Text} {xs ys : List ℕ} {m n : ℕ} → Added t xs m u → Added u ys n v → Added t (xs ++ ys) (m + n) v
added_then {t} {u} {v} {xs} {ys} a b = record {
  text = b.text ∙ ap (λ (l : List ℕ). l ++ ys) a.text ∙ append_assoc (shown t) xs ys;
  long = omega arith;
}

-- the same list, and a bound that is not less
pub added_as : {t u : Text} {xs ys : List ℕ} {m n : ℕ} → xs ≡ ys → m ≤ n → Added t xs m u → Added t ys n u
added_as {t} e h a = record { text = a.text ∙ ap (λ (l : List ℕ). shown t ++ l) e; long = omega arith }

-- what is added to the text of no bytes is the text
pub added_all : {t u : Text} {xs : List ℕ} {n : ℕ} → (shown t ≡ []) × (t.count ≡ 0) → Added t xs n u → n ≤ 160 → (shown u ≡ xs) × (u.count ≤ 160)
added_all {t} {u} {xs} e a h = (a.text ∙ ap (λ (l : List ℕ). l ++ xs) e.0, omega arith)

-- one more entry of a list
pub take_more : (l : List ℕ) (i : ℕ) → i < length l → take i l ++ (get_or l i 0 ∷ []) ≡ take (i + 1) l
take_more l i h = rw add-one (sym (take-suc l i 0 h))
