-- The lines of the switches, the word and the label of the sink. Assumes nothing.
use Rattle.std.proofs.Common.{◌≡◌, ◌≤◌, ◌<◌, min, ⊎_elim, arith}
use borrow.Author.Tests.{lt-ltb, le-ltb}
use Rattle.prelude.specs.Tests.{le?}
use Rattle.request.specs.Numbers.{switches_most}
use Rattle.network.specs.declared.Network.{Network}
use Rattle.reports.specs.Texts.Laws.{added_then}
use Rattle.reports.specs.Reports.{shown_switches, sink_text, network_text}
use Rattle.reports.proofs.buffer.Text.put_network.Goals as goal

-- as many switches are shown as there may be at most
shown_min : (w : Network) → min w.r switches_most ≡ shown_switches w
unfolding shown_switches
shown_min w =
    ⊎_elim (λ (h : w.r ≤ switches_most). rw (le-ltb switches_most w.r h) (omega arith))
    (λ (h : switches_most < w.r). rw (lt-ltb switches_most w.r h) (omega arith)) (le? w.r switches_most)

pub returns : goal.returns
unfolding network_text sink_text
returns c =
    rw (← shown_min c.args.w, ← c.min-r.ensures) (added_then c.put_switches.ensures (added_then c.put_word.ensures c.put_number.ensures))
