use Rattle.std.proofs.Common.{inl, sym, ◌∙◌, ap}
use Rattle.share_model.specs.text.Lines.{line_or_refusal}
use Rattle.share_text.proofs.ReadingLemmas.{line_by-send, line_by-short, reads_same}
use Rattle.share_text.proofs.reading.read_words.Goals as goal

pub returns-then-is_word : goal.returns-then-is_word
returns-then-is_word c =
    reads_same _ _ _ _
    (line_by-send c.args.keyword.now c.args.words.now (sym c.is_word.ensures ∙ c.if-is_word.true)) c.send.ensures

pub returns : goal.returns
returns c =
    reads_same _ _ _ _
    (line_by-short c.args.keyword.now c.args.words.now (sym c.is_word.ensures ∙ c.if-is_word.false))
    (inl (c.line_or_refusal.ensures ∙ ap (line_or_refusal c.args.version) c.short_line.ensures))
