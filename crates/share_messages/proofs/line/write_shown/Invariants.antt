use Rattle.std.proofs.Common.{map}
use Rattle.std.specs.Prelude.{encode_utf8_all}
use Rattle.std.specs.Fmt.{HasWritten, IsPlainFormatter}
use Rattle.share_messages.specs.Lines.{shown_char}
use Rattle.share_messages.proofs.line.write_shown.Given as goal

abbrev pub invariant-chars : goal.invariant-chars
invariant-chars g l =
    IsPlainFormatter l.fn.f
    → HasWritten g.W.Write.write_str_gives l.fn.f (encode_utf8_all (map shown_char l.yielded)) l.f
