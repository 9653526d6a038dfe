-- Why a segment stops before its last round. No public contract cites this file.
use Rattle.std.specs.Prelude.{◌≡◌}
use Rattle.border_exchange.specs.declared.border.fault.PutFault.{PutFault}
use Rattle.border_exchange.specs.declared.border.fault.PutFault.TheVariants as put
use Rattle.ring_exec.specs.declared.end.EndStop.{EndStop}
use Rattle.ring_exec.specs.declared.end.EndStop.TheVariants as end
use Rattle.ring_exec.specs.declared.segment_fault.RunStop.{RunStop}
use Rattle.ring_exec.specs.declared.segment_fault.RunStop.TheVariants as run

-- why a segment stops at a border on which its message was not put; it puts none that is misplaced
abbrev pub IsEndStop : PutFault → EndStop → Type 0
IsEndStop put.Closed stop = stop ≡ end.BorderClosed
IsEndStop put.Misplaced stop = ⊥
IsEndStop put.OutOfMemory stop = stop ≡ end.OutOfMemory

-- why it stops its run
abbrev pub run_stop_of : EndStop → RunStop
run_stop_of end.BorderClosed = run.BorderClosed
run_stop_of end.OutOfMemory = run.OutOfMemory
