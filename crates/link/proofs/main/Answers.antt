use Rattle.link.proofs.main.Goals as goal

pub serve_given-requires-after_bounds : goal.serve_given-requires-after_bounds
serve_given-requires-after_bounds g c κs = rw c.in-Ok-Serve.field-0-is at c.in-Ok-Serve.ensures
