use Rattle.std.proofs.Common.{length, ◌-◌, ◌≡◌, false, ◌≤◌, take}
use Rattle.std.specs.Io.KnownBytes.{Appends}
use Rattle.devices.specs.Watched.{has_failed}
use Rattle.devices.proofs.output.send.Given as goal

abbrev pub invariant-loop-sent : goal.invariant-loop-sent
invariant-loop-sent g l = record {
  front : Appends (g.W.Write.contents l.initial.writer.device) (g.W.Write.contents l.writer.device)
      (take l.sent l.bytes);
  bounded : l.sent ≤ length l.bytes;
  working : has_failed l.writer ≡ false;
}

abbrev pub decreases-loop-sent : goal.decreases-loop-sent
decreases-loop-sent g l = length l.bytes - l.sent
