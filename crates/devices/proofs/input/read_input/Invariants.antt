use Rattle.std.proofs.Common.{◌≡◌, false, ◌+◌, ◌≤◌, length}
use Rattle.std.specs.Io.KnownBytes.{Consumes}
use Rattle.devices.specs.Watched.{has_failed}
use Rattle.devices.proofs.input.read_input.Given as goal

abbrev pub invariant-reads : goal.invariant-reads
invariant-reads g l = record {
  taken : Consumes (g.R.Read.remaining l.initial.reader.device) (g.R.Read.remaining l.reader.device) l.input.items;
  turns : l._turn ≤ length l.input.items;
  bounded : length l.input.items ≤ l.most;
  working : has_failed l.reader ≡ false;
  asked : l.reader.calls ≤ l.initial.reader.calls + l._turn;
}
