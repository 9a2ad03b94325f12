use Rattle.std.proofs.Common.{◌<◌, length, arith}
use Rattle.tree.proofs.BucketLaws.{front_more}
use Rattle.tree.proofs.bucket.Bucket.to_words.Goals as goal

pub loop-i-preserved : goal.loop-i-preserved
loop-i-preserved c =
    let ps = c.args.self.now.places in
    let h : c.loop-i.i < length ps = omega (arith, c.args.self.now.four) in
    (c.write.array_long, front_more ps c.loop-i.i c.place-item.result c.loop-i.words c.write.new.into h (omega (arith, c.loop-i.invariant.0)) c.loop-i.invariant.1 c.write.ensures)
