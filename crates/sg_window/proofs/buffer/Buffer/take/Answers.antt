use Rattle.sg_window.proofs.Slices.{after_take}
use Rattle.sg_window.proofs.buffer.Buffer.take.Goals as goal

pub returns : goal.returns
returns c =
    let b = c.self.inside in
    after_take b.bytes.items b.start b.stop b.end c.args.size c.args.self.now c.self.view_is c.requires c.self.invariant.1
