-- Each answer is the definition's, by one law for each, and so has the meaning, the number and the values. Assumes nothing.
use Rattle.std.specs.Prelude.{◌≡◌, length, Ok, Err}
use Rattle.std.proofs.lemmas.Result.{err_from_is_err_and}
use mathlib.Core.Path.{sym, ap, ◌∙◌, subst}
use borrow.Author.Rules.{rules}
use Rattle.request.specs.Numbers.{switches_most}
use Rattle.request.specs.declared.Request.{Request}
use Rattle.network.specs.Check.{Checked, number_of, values_of, checked_number, checked_values, checked_of}
use Rattle.network.specs.Meaning.{Means}
use Rattle.network.specs.Value.{terminals_most}
use Rattle.network.specs.declared.Network.{Network}
use Rattle.network.proofs.CheckLaws.{checked_refused, form_not, checked_rows}
use Rattle.network.proofs.CheckNumbers.{checked_number_lem, checked_values_lem}
use Rattle.network.proofs.MeaningLaws.{checked_means}
use Rattle.network_check.proofs.check_network.Goals as goal

answered : (q : Request) (w : Network) → length w.literals ≡ switches_most → length w.labels ≡ terminals_most → {x : Checked}
    → x ≡ checked_of q w → Means q w x × (number_of x ≡ checked_number q w) × (values_of x ≡ checked_values q w)
answered q w a b e = (
  subst (Means q w) (sym e) (checked_means q w a b),
  ap number_of e ∙ checked_number_lem q w,
  ap values_of e ∙ checked_values_lem q w,
)

pub returns-in_err-good : goal.returns-in_err-good
returns-in_err-good c =
    let p = err_from_is_err_and c.from_residual.result c.from_residual.ensures.1 in
    let e : c.from_residual.result ≡ checked_of c.args.q c.args.w = p.1 ∙ ap Err p.2 ∙ checked_refused _ _ _ c.in_err-good.ensures.number in
    let a = answered c.args.q c.args.w (search rules) (search rules) e in
    record { answer = e; meaning = a.0; number = a.1; values = a.2 }

pub returns-then-not-fits : goal.returns-then-not-fits
returns-then-not-fits c =
    let good = c.in_ok-good.ensures in
    let e = form_not c.args.q c.args.w (sym good.number) (rw good.request at (sym c.fits.ensures ∙ c.if-not-fits.true)) in
    let a = answered c.args.q c.args.w (search rules) (search rules) e in
    record { answer = e; meaning = a.0; number = a.1; values = a.2 }

pub lowest_wrong-requires : goal.lowest_wrong-requires
lowest_wrong-requires c = sym c.fits.ensures ∙ c.if-not-fits.false

pub returns : goal.returns
returns c =
    let good = c.in_ok-good.ensures in
    let e = ap Ok (rw good.request at c.lowest_wrong.ensures)
    ∙ checked_rows c.args.q c.args.w (sym good.number) (rw good.request at (sym c.fits.ensures ∙ c.if-not-fits.false)) in
    let a = answered c.args.q c.args.w (search rules) (search rules) e in
    record { answer = e; meaning = a.0; number = a.1; values = a.2 }
