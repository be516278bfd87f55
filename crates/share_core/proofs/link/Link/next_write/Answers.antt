use Rattle.std.proofs.Common.{◌+◌, ◌∙◌, ap, sym, subst, arith, length, option_map}
use Rattle.share_base.specs.Version.{header_length}
use Rattle.share_model.specs.link.Books.{is_book_of, tariff_of}
use Rattle.share_model.specs.link.Buffers.{head_of}
use Rattle.share_model.specs.link.Turns.{sending_at}
use Rattle.share_model.specs.link.View.{LinkView}
use Rattle.share_model.proofs.lemmas.run.SoundLinkLemmas.{tariff-shelf}
use Rattle.share_flows.specs.BufferHandles.{Stands}
use Rattle.share_flows.proofs.FirstItemLemmas.{is_found}
use Rattle.share_core.specs.declared.next_write.NextWrite.{NextWrite}
use Rattle.share_core.specs.NextWrite.{IsNextWriteOf}
use Rattle.share_core.proofs.NextWriteLemmas.{head_placed}
use Rattle.share_core.proofs.BufferHandleLemmas.{booked_at}
use Rattle.share_core.proofs.link.Link.next_write.Goals as goal

pub tariff_at-requires : goal.tariff_at-requires
tariff_at-requires g c =
    booked_at c.self.invariant.1 c.in_ok-buffer.buffer c.in_ok-buffer.ensures.2

pub overflow_cast-result : goal.overflow_cast-result
overflow_cast-result g c =
    let sound = c.self.invariant.1 in
    let due = c.in_ok-buffer.buffer in
    let booked = is_found (is_book_of due.flow) _ due.at (booked_at sound due c.in_ok-buffer.ensures.2) in
    let shelf = tariff-shelf (g.met.S.Rates.in_range c.self.inside.shelf) sound due.flow booked in
    omega (arith, c.tariff_at.ensures, shelf.1)

pub returns : goal.returns
returns g c =
    let l = c.args.self.now.live in
    let buffer = c.in_ok-buffer.buffer in
    let payload = c.as_slice.result.now in
    let due : NextWrite = record {
      buffer = buffer;
      seq = c.in_ok-seq.seq;
      tariff = c.tariff_at.result;
      out = c.args.out;
      length = c.header.result + length payload;
    } in
    let version = c.header.ensures ∙ ap (λ (k : LinkView (Unit {0})). header_length k.live.version) c.self.view_is in
    let tariff = c.tariff_at.ensures
    ∙ ap (λ (k : LinkView (Unit {0})). tariff_of k.live.books buffer.flow) c.self.view_is in
    let same = ap (λ (k : LinkView (Unit {0})). k.live.buffers) c.self.view_is in
    let head = ap (λ bs. head_of bs buffer.flow) (sym same) ∙ c.in_ok-seq.ensures in (
      subst (λ f. IsNextWriteOf (option_map (sending_at l c.args.out) (head_of l.buffers f)) due)
          c.in_ok-buffer.ensures.0
          (head_placed l due c.in_ok-seq.body.now.payload head tariff
          (ap (λ bytes. c.header.result + length bytes) c.as_slice.ensures.value
          ∙ ap (λ n. n + length c.in_ok-seq.body.now.payload) version)),
      subst (λ bs. Stands bs buffer) same c.in_ok-buffer.ensures.2,
    )
