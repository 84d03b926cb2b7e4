use Rattle.std.proofs.Common.{◌≡◌, length}
use Rattle.tlv.specs.Objects.{skip}
use Rattle.tlv.proofs.token.skip_filler.Given as goal

abbrev pub invariant-loop-rest : goal.invariant-loop-rest
invariant-loop-rest l = skip l.rest ≡ skip l.text

abbrev pub decreases-loop-rest : goal.decreases-loop-rest
decreases-loop-rest l = length l.rest
