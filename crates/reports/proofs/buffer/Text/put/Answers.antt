-- One byte is written where the text ends. Assumes nothing.
use Rattle.std.proofs.Common.{◌≡◌, rules, [], ◌∷◌, length, refl, arith}
use Rattle.prelude.specs.Written.Laws.{wrote_one}
use Rattle.reports.specs.Texts.Laws.{added_wrote}
use Rattle.reports.proofs.buffer.Text.put.Goals as goal

pub returns : goal.returns
returns c =
    let t = c.args.self.now in
    let l : length t.bytes ≡ 160 = search rules in
    added_wrote t (c.args.byte ∷ []) 1 (omega arith) (omega arith) (wrote_one t.bytes t.count c.args.byte (omega arith)) _ refl refl
