-- What the program writes for three files. Assumes nothing.
use Rattle.std.specs.Prelude.{cond, List, [], ◌∷◌, ◌++◌, ℕ, ltb, length, replicate, pos}
use Rattle.lrat_check.specs.Refutation.{Lent, lent}
use Rattle.reports.specs.Report.{report_text}

-- the longest file that is read whole, in bytes
abbrev pub longest : ℕ
longest = 65536

-- the slices that the program lends
abbrev pub lent_zeros : Lent
lent_zeros = lent (replicate 16384 (pos 0)) (replicate 16384 0) (replicate 16384 0) (replicate 8192 0)

-- "too long", the name and a newline
abbrev pub too_long_text : List ℕ → List ℕ
too_long_text name = 116 ∷ 111 ∷ 111 ∷ 32 ∷ 108 ∷ 111 ∷ 110 ∷ 103 ∷ 32 ∷ (name ++ (10 ∷ []))

-- "request.txt"
abbrev pub request_name : List ℕ
request_name = 114 ∷ 101 ∷ 113 ∷ 117 ∷ 101 ∷ 115 ∷ 116 ∷ 46 ∷ 116 ∷ 120 ∷ 116 ∷ []

-- "answer.txt"
abbrev pub answer_name : List ℕ
answer_name = 97 ∷ 110 ∷ 115 ∷ 119 ∷ 101 ∷ 114 ∷ 46 ∷ 116 ∷ 120 ∷ 116 ∷ []

-- "refutation.txt"
abbrev pub refutation_name : List ℕ
refutation_name = 114 ∷ 101 ∷ 102 ∷ 117 ∷ 116 ∷ 97 ∷ 116 ∷ 105 ∷ 111 ∷ 110 ∷ 46 ∷ 116 ∷ 120 ∷ 116 ∷ []

-- the first file that is too long is named; three that are not are reported on
abbrev pub output_text : List ℕ → List ℕ → List ℕ → List ℕ
output_text request answer refutation =
    cond (ltb longest (length request)) (too_long_text request_name)
    (cond (ltb longest (length answer)) (too_long_text answer_name)
    (cond (ltb longest (length refutation)) (too_long_text refutation_name) (report_text request answer refutation lent_zeros)))
