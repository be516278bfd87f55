-- Shares hold in the events of every book.
use Rattle.std.specs.Prelude.{◌++◌, List}
use Rattle.std.proofs.Common.{subst}
use Rattle.share_base.specs.declared.command.Event.{Event}
use Rattle.share_base.specs.declared.version.Version.TheVariants.{Two}
use Rattle.share_model.specs.run.Events.{MayRun}
use Rattle.share_model.specs.run.Fold.{empty_state}
use Rattle.share_model.proofs.lemmas.run.EventLemmas.{may_follow-front}
use Rattle.share_model.proofs.lemmas.run.ShareLemmas.{run-shares}
use Rattle.share_book.specs.Audited.{Audited, IsRunAndText}
use Rattle.share_book.specs.Shares.{SharesOfEvents}

pub text-shares : (a : Audited) (text : IsRunAndText a) → SharesOfEvents a.link.rates text.events
text-shares a text = λ before stretch after one other one_tickets other_tickets events_are apart none compete.
    let may = subst (λ (events : List Event). MayRun Two a.link.life a.link.rates events) events_are text.run.may in
    run-shares Two a.link.life a.link.rates before stretch one other one_tickets other_tickets text.run.range
    (may_follow-front a.link.life a.link.rates (empty_state Two) (before ++ stretch) after may) apart none compete
