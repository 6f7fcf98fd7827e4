-- The invariant is Scanning, over the literals that are left. Assumes nothing.
use Rattle.std.proofs.Common.{map, drop}
use Rattle.lrat.specs.Bytes.{literal_from}
use Rattle.lrat.proofs.BytesScan.{Scanning}
use Rattle.lrat_check.proofs.clause.evaluate_original.Given as goal

abbrev pub invariant-loop-literal : goal.invariant-loop-literal
invariant-loop-literal l =
    Scanning l.values.stamp.byte l.values.bytes.now (map literal_from l.literals) l.found (map literal_from (drop l.literal-index l.literals))
