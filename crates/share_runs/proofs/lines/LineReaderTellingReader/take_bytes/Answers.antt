use Rattle.std.proofs.Common.{◌≡◌, length, arith}
use Rattle.std.proofs.lemmas.List.{length-take}
use Rattle.share_runs.proofs.LineLemmas.{byte_given, nothing_given}
use Rattle.share_runs.proofs.lines.LineReaderTellingReader.take_bytes.Goals as goal

pub returns-in-Bytes : goal.returns-in-Bytes
returns-in-Bytes g c =
    let few = length-take 1 c.args.buffer.now in
    let same = c.take_bytes-got.auto.buffer in
    let some = c.requires in
    let one : length c.take_bytes-got.new.buffer ≡ 1 = omega (arith, few, same, some) in
    let gave = g.met.I.TellingReader.tells _ _ _ _ c.in-Bytes.ensures in
    rw (c.in-Bytes.is, c.follow.ensures.input)
    (byte_given c.take_bytes-got.new.buffer _ one c.in-Bytes.ensures gave.0 gave.1 c.follow.ensures.line)

pub returns-in_default : goal.returns-in_default
returns-in_default g c =
    let few = length-take 1 c.args.buffer.now in
    let same = c.take_bytes-got.auto.buffer in
    let some = c.requires in
    let one : length c.take_bytes-got.new.buffer ≡ 1 = omega (arith, few, same, some) in
    nothing_given c.take_bytes-got.new.buffer _ _ one c.take_bytes-got.ensures c.in_default.not-Bytes
