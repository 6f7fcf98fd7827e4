-- The lines of the report (document 01: "It prints \"least k\", \"works k number\", \"fails k row\" or \"refused number\"; after the first
-- two, a line \"s v a b\" per switch (number, literal, the two nets) and \"sink c\""), as lists of bytes. Each line ends with a
-- newline. Assumes nothing.
use Rattle.std.specs.Prelude.{cond, List, [], ◌∷◌, ◌++◌, ℕ, ◌+◌, ◌*◌, ltb, get_or}
use Rattle.prelude.specs.Blocks.{each}
use Rattle.request.specs.Numbers.{switches_most}
use Rattle.network.specs.declared.Network.{Network}
use Rattle.text.specs.Decimal.{decimal}
pub mod Laws

-- the bytes between and after numbers
abbrev pub space : ℕ
space = 32

abbrev pub newline : ℕ
newline = 10

-- the numeral of x, and the byte after it
unfoldable pub number_text : ℕ → ℕ → List ℕ
number_text x after = decimal x ++ (after ∷ [])

-- "a line \"s v a b\" per switch (number, literal, the two nets)": the nets are the labels of the ends 2s+1 and 2s+2
unfoldable pub switch_text : Network → ℕ → List ℕ
switch_text w s =
    number_text s space
    ++ (number_text (get_or w.literals s 0) space
    ++ (number_text (get_or w.labels (2 * s + 1) 0) space ++ number_text (get_or w.labels (2 * s + 2) 0) newline))

-- how many switches have a line: r. Every network of ours has at most 7; for one whose r is above 7 this is 7
unfoldable pub shown_switches : Network → ℕ
shown_switches w = cond (ltb switches_most w.r) switches_most w.r

-- "sink c": the label of the terminal 2r+1
unfoldable pub sink_text : Network → ℕ → List ℕ
sink_text w r = 115 ∷ 105 ∷ 110 ∷ 107 ∷ space ∷ number_text (get_or w.labels (2 * r + 1) 0) newline

-- "after the first two, a line \"s v a b\" per switch .. and \"sink c\""
unfoldable pub network_text : Network → List ℕ
network_text w = each (shown_switches w) (switch_text w) ++ sink_text w (shown_switches w)

-- "refused number"
unfoldable pub refused_text : ℕ → List ℕ
refused_text x = 114 ∷ 101 ∷ 102 ∷ 117 ∷ 115 ∷ 101 ∷ 100 ∷ space ∷ number_text x newline

-- "fails k row"
unfoldable pub fails_text : ℕ → ℕ → List ℕ
fails_text k row = 102 ∷ 97 ∷ 105 ∷ 108 ∷ 115 ∷ space ∷ (number_text k space ++ number_text row newline)

-- "works k number", and the network
unfoldable pub works_text : ℕ → ℕ → Network → List ℕ
works_text k x w = 119 ∷ 111 ∷ 114 ∷ 107 ∷ 115 ∷ space ∷ (number_text k space ++ (number_text x newline ++ network_text w))

-- "least k", and the network
unfoldable pub least_text : ℕ → Network → List ℕ
least_text k w = 108 ∷ 101 ∷ 97 ∷ 115 ∷ 116 ∷ space ∷ (number_text k newline ++ network_text w)
