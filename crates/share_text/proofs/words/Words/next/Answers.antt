use Rattle.std.proofs.Common.{sym, ◌∙◌, ap}
use Rattle.std.specs.Option.{option_copied}
use Rattle.share_text.specs.Words.{words_left}
use Rattle.share_text.proofs.WordLemmas.{split_nowhere, split_first_to_end}
use Rattle.share_text.proofs.words.Words.next.Goals as goal

pub returns-in-None : goal.returns-in-None
returns-in-None c = sym c.self.view_is ∙ ap (λ o. words_left (option_copied o)) c.in_ok-rest.was
    ∙ split_nowhere _ _ c.in-None.ensures

pub returns-in-Some : goal.returns-in-Some
returns-in-Some c = sym c.self.view_is ∙ ap (λ o. words_left (option_copied o)) c.in_ok-rest.was
    ∙ split_first_to_end _ _ _ c.in-Some.ensures
