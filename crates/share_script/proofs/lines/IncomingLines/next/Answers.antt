use Rattle.std.proofs.Common.{◌<◌, ◌≤◌, false, true, length, ap, arith, [], List, ℕ}
use Rattle.share_script.specs.declared.lines.Incoming.TheVariants.{Line, OverLong, Unfinished}
use Rattle.share_script.proofs.IncomingLemmas.{left_clean, kept_clean, next_as, next_whole, next_long, next_unfinished}
use Rattle.share_script.proofs.lines.IncomingLines.next.Goals as goal

pub invariant_of-self : goal.invariant_of-self
invariant_of-self g c =
    let s = c.self.inside in
    let clean = left_clean s.kept c.end_given.new.kept s.is_given c.end_given.ensures c.self.invariant in
    kept_clean c.end_given.new.kept s.chunk c.keep_line.new.kept c.keep_line.new.chunk false clean
    c.if-not-keep_line.ensures

pub returns-then-not-keep_line-clause-next : goal.returns-then-not-keep_line-clause-next
returns-then-not-keep_line-clause-next g c =
    let s = c.self.inside in
    let clean = left_clean s.kept c.end_given.new.kept s.is_given c.end_given.ensures c.self.invariant in
    next_as c.args.self.now s.reader s.kept s.chunk c.end_given.new.kept s.is_given Unfinished [] _ c.self.view_is
    c.end_given.ensures
    (next_unfinished c.end_given.new.kept s.chunk c.keep_line.new.kept c.keep_line.new.chunk clean
    c.if-not-keep_line.ensures)

pub returns-then-as_slice-gt-MAX_LINE-clause-next : goal.returns-then-as_slice-gt-MAX_LINE-clause-next
returns-then-as_slice-gt-MAX_LINE-clause-next g c =
    let s = c.self.inside in
    let clean = left_clean s.kept c.end_given.new.kept s.is_given c.end_given.ensures c.self.invariant in
    let many : 20480 < length c.keep_line.new.kept =
    omega (arith, ap (λ (r : List ℕ). length r) c.as_slice.ensures, c.if-as_slice-gt-MAX_LINE.true) in
    rw c.clear.ensures
    (next_as c.args.self.now s.reader s.kept s.chunk c.end_given.new.kept s.is_given OverLong [] c.keep_line.new.chunk
    c.self.view_is c.end_given.ensures
    (next_long c.end_given.new.kept s.chunk c.keep_line.new.kept c.keep_line.new.chunk clean
    c.if-not-keep_line.ensures many))

pub invariant_of-self-2 : goal.invariant_of-self-2
invariant_of-self-2 g c =
    let s = c.self.inside in
    let clean = left_clean s.kept c.end_given.new.kept s.is_given c.end_given.ensures c.self.invariant in
    kept_clean c.end_given.new.kept s.chunk c.keep_line.new.kept c.keep_line.new.chunk true clean
    c.if-not-keep_line.ensures

pub returns-clause-next : goal.returns-clause-next
returns-clause-next g c =
    let s = c.self.inside in
    let clean = left_clean s.kept c.end_given.new.kept s.is_given c.end_given.ensures c.self.invariant in
    let few : length c.keep_line.new.kept ≤ 20480 =
    omega (arith, ap (λ (r : List ℕ). length r) c.as_slice.ensures, c.if-as_slice-gt-MAX_LINE.false) in
    next_as c.args.self.now s.reader s.kept s.chunk c.end_given.new.kept s.is_given Line c.keep_line.new.kept
    c.keep_line.new.chunk c.self.view_is c.end_given.ensures
    (next_whole c.end_given.new.kept s.chunk c.keep_line.new.kept c.keep_line.new.chunk clean
    c.if-not-keep_line.ensures few)
