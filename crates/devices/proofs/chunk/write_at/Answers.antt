use Rattle.std.proofs.Common.{arith}
use Rattle.devices.proofs.WrittenChunks.{put_front}
use Rattle.devices.proofs.chunk.write_at.Goals as goal

pub returns-clause-fronts : goal.returns-clause-fronts
returns-clause-fronts c =
    λ n le. rw c.copy_from_slice.ensures.after
    (put_front c.args.start n c.args.bytes.now c.args.text.now _ (omega (arith, c.requires)) le)
