-- The part of the array from the end on is the word. Assumes nothing.
use Rattle.std.proofs.Common.{◌≡◌, rules, length, refl, arith}
use Rattle.prelude.specs.Written.Laws.{wrote_part}
use Rattle.reports.specs.Texts.Laws.{added_wrote}
use Rattle.reports.proofs.buffer.Text.put_word.Goals as goal

pub returns : goal.returns
returns c =
    let t = c.args.self.now in
    let word = c.args.word.now in
    let l : length t.bytes ≡ 160 = search rules in
    added_wrote t word (length word) (omega arith) (omega arith)
    (refl, wrote_part t.bytes t.count _ word c.copy_from_slice.new.self c.copy_from_slice.ensures.after (omega arith)) _ refl refl
