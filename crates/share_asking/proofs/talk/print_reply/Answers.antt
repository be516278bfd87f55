use Rattle.std.proofs.Common.{rules, ◌≡◌, false, true}
use Rattle.share_asking.specs.Replies.{goes_on, is_refusal}
use Rattle.share_asking.proofs.ConversationLemmas.{answered_report, answered_row}
use Rattle.share_asking.proofs.talk.print_reply.Goals as goal
use Rattle.share_asking.proofs.talk.print_reply.Goals.{then-goes_on+in_ok-print_to_end, else-goes_on}

pub returns : goal.returns
returns g c =
    let row = c.in_ok-row.row.items in
    let same : c.is_refusal-is_refused.result ≡ is_refusal row = search rules in
    elim c.if-goes_on.branch [
      | then-goes_on+in_ok-print_to_end w ↦
          let goes : goes_on c.args.line.now row ≡ true = search rules in
          rw (w.replies-is, w.output-is)
          (answered_report _ _ _ _ _ _ c.args.line.now row _ c.in_ok-row.ensures w.in_ok-print_to_end.ensures goes same)
      | else-goes_on w ↦
          let stops : goes_on c.args.line.now row ≡ false = search rules in
          rw (w.replies-is, w.output-is) (answered_row _ _ _ _ c.args.line.now row _ c.in_ok-row.ensures stops same)
    ]
