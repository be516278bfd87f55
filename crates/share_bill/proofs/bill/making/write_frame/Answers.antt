use Rattle.share_bill.proofs.MakingLemmas.{frame-written}
use Rattle.share_bill.proofs.bill.making.write_frame.Goals as goal

pub returns : goal.returns
returns g c =
    rw c.frame_in.ensures
    (frame-written _ (λ before piece answer after did. did) c.args.engine.now c.turn-turn.new.self c.turn-turn.result
    c.events.ensures.sound c.requires.living c.requires.unbroken c.turn-turn.ensures)
