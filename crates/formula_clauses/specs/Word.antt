-- The literals' values on a row as the bits of a word. Assumes nothing.
use Rattle.std.specs.Prelude.{◌≡◌, Bool, true, false, cond, ℕ, ◌+◌, ◌-◌, ◌*◌, ◌^◌, ◌<◌}
use Rattle.rows.specs.Rows.{bit}
use Rattle.formula.specs.Values.{has_value}
use Rattle.formula.specs.Values.Laws.{literal_word, literal_word_not}

-- bit 2n−1−v is set where literal v has the value on row k: first the inputs' bits, those of k, then their complements'
unfoldable pub value_word : ℕ → ℕ → Bool → ℕ
value_word n k b = cond b (k * 2 ^ n + (2 ^ n - 1 - k)) ((2 ^ n - 1 - k) * 2 ^ n + k)

pub word_bit : (n k v : ℕ) (b : Bool) → v < 2 * n → k < 2 ^ n → bit (value_word n k b) (2 * n - 1 - v) ≡ has_value n k b v
unfolding value_word
word_bit n k v true l h = literal_word n k v l h
word_bit n k v false l h = literal_word_not n k v l h
