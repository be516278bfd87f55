-- The outcome of the audit of a recorder's journal that is run as a script.
use Rattle.std.specs.Prelude.{◌≡◌, ℕ, Bool, List, flat_map, map, Option, IfSome}
use Rattle.share_model.specs.io.Told.{Told}
use Rattle.share_model.specs.link.View.{LinkView}
use Rattle.share_model.specs.run.Fold.{run, out}
use Rattle.share_model.specs.text.Audit.{audit_lines, audit}
use Rattle.share_model.specs.text.Lines.{spelling_of}
use Rattle.share_model.specs.text.Talk.{start_of_script, talk, after, lines_of}
use Rattle.share_model.specs.text.Texts.{line_text}
use Rattle.share_journal.specs.declared.entry.Entry.{Entry}
use Rattle.share_journal.specs.Entries.{events_in, replies_of}

-- the lines that the bytes of the audit are
abbrev pub audit_lines_of : {W : Type 0} → LinkView W → List Entry → List (List ℕ)
audit_lines_of link entries = lines_of (audit link.live.version (events_in entries))

-- the bytes of the audit are read as its lines. These are answered by the journal's replies, and come to the state of
-- the run, which is what the link holds. If its writer reports its bytes, they are those of that state
pub record IsReplayOf {W : Type 0} (told : W → Option Told) (link : LinkView W) (entries : List Entry) (life : ℕ)
    (lacks : List Bool) : Type 0 where
  pub lines : audit_lines_of link entries ≡ map spelling_of (audit_lines link.live.version (events_in entries))
  pub text : talk life link.rates start_of_script lacks (audit_lines_of link entries)
      ≡ flat_map line_text (replies_of entries)
  pub state : (after life link.rates start_of_script lacks (audit_lines_of link entries)).state
      ≡ run link.live.version link.rates (events_in entries)
  pub live : (after life link.rates start_of_script lacks (audit_lines_of link entries)).state.live ≡ link.live
  pub bytes : IfSome (told link.writer)
      (λ t. t.bytes ≡ out (after life link.rates start_of_script lacks (audit_lines_of link entries)).state)
