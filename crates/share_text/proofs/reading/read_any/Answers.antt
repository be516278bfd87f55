use Rattle.std.proofs.Common.{inl, sym, ◌∙◌, arith}
use Rattle.share_text.proofs.ReadingLemmas.{no_words, reads}
use Rattle.share_text.proofs.reading.read_any.Goals as goal

pub returns-in-None : goal.returns-in-None
returns-in-None c =
    inl (no_words c.args.version c.args.bytes.now (omega arith) (sym c.of-words.ensures ∙ c.in-None.ensures))

pub returns-in-Some : goal.returns-in-Some
returns-in-Some c =
    reads c.args.version c.args.bytes.now _ _ _ (omega arith) (sym c.of-words.ensures ∙ c.in-Some.ensures)
    c.read_words.ensures
