use Rattle.std.proofs.Common.{rules}
use Rattle.devices.proofs.Known.{sent_more}
use Rattle.devices.proofs.output.send.Goals as goal

-- The bytes taken by this write follow those sent before it.
pub loop-sent-preserved : goal.loop-sent-preserved
loop-sent-preserved g c =
    let more = c.in_ok-sent.ensures.bytes in
    record {
      front = sent_more _ _ _ _ _ _ c.loop-sent.invariant.front more;
      bounded = search rules;
      working = search rules;
    }
