use Rattle.share_model.proofs.lemmas.link.FrameLemmas.{frame-prefix}
use Rattle.share_frame.proofs.UniqueAnswerLemmas.{frame-proper, version-told}
use Rattle.share_frame.proofs.laws.no_frame_begins_another.Goals as goal

pub returns-clause-proper : goal.returns-clause-proper
returns-clause-proper c = frame-proper

pub returns-clause-same : goal.returns-clause-same
returns-clause-same c = λ version tariff other_tariff head other rest more fits others same.
    let one = frame-prefix version tariff other_tariff head other rest more fits others same in
    (one.head, one.tariff, one.rest)

pub returns-clause-version : goal.returns-clause-version
returns-clause-version c = version-told
