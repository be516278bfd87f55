use Rattle.std.proofs.Common.{◌≤◌, ◌∙◌, ap, drop, length, subst, sym}
use Rattle.share_script.proofs.ChunkLemmas.{passed}
use Rattle.share_script.proofs.chunk.Chunk.pass.Goals as goal

pub returns : goal.returns
returns c =
    let few = subst (λ r. c.args.count ≤ length r) (sym c.self.view_is) c.requires in
    passed c.self.inside.buffer.items c.self.inside.at c.self.inside.end c.args.count
    c.self.invariant.0 c.self.invariant.1 few
    ∙ ap (λ r. drop c.args.count r) c.self.view_is
