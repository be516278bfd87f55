-- Reports, checked against worked examples: each equation holds by computation alone.
use Rattle.std.specs.Prelude.{◌≡◌, ℕ, pos, List, [], ◌∷◌, ◌++◌, codes, refl}
use Rattle.std.specs.Fmt.{digits}
use Rattle.std.proofs.Common.{ap, ◌∙◌, subst}
use Rattle.share_base.specs.declared.version.Version.TheVariants.{One}
use Rattle.share_model.specs.declared.link.FlowLine.{FlowLine}
use Rattle.share_model.specs.declared.link.LinkState.TheVariants.{Free, Torn}
use Rattle.share_model.specs.declared.link.Standing.TheVariants.{In}
use Rattle.share_model.specs.declared.link.Totals.{Totals}
use Rattle.share_model.specs.link.Live.{empty_link}
use Rattle.share_model.specs.link.Totals.{totals}
use Rattle.share_model.specs.stride.Rows.{total-empty}
use Rattle.share_model.specs.text.Columns.{at_left, at_right}
use Rattle.share_model.specs.text.Report.{total_line, totals_text, flow_line, report_text, report}

no_totals : Totals
no_totals = record {
  clock = 0;
  accepted = 0;
  written = 0;
  torn = 0;
  waiting = 0;
  dropped = 0;
  bytes = 0;
  past = 0;
  tickets = 0;
  pass = 0;
  link = Free;
}

-- of a new link
pub zero_report : List ℕ
zero_report =
    codes "clock                            0\n"
    ++ codes "accepted                         0\n"
    ++ codes "written                          0\n"
    ++ codes "torn                             0\n"
    ++ codes "waiting                          0\n"
    ++ codes "dropped                          0\n"
    ++ codes "bytes                            0\n"
    ++ codes "past                             0\n"
    ++ codes "tickets                          0\n"
    ++ codes "pass                             0\n"
    ++ codes "link                             0\n"
    ++ codes "end\n"

no_totals_show : report_text no_totals [] ≡ zero_report
unfolding zero_report no_totals report_text totals_text total_line at_left at_right digits
no_totals_show = refl

-- the entries of a finite map do not compute, not those of the empty one either
pub new_link_shows : report (empty_link One) ≡ zero_report
unfolding no_totals
new_link_shows =
    let P : ℕ → Type 0 = λ n. totals (empty_link One) ≡ record no_totals { tickets = n } in
    ap (λ t. report_text t []) (subst P total-empty refl) ∙ no_totals_show

-- of one flow, whose only packet was torn after 7 bytes
torn_totals : Totals
torn_totals = record {
  clock = 64;
  accepted = 1;
  written = 0;
  torn = 1;
  waiting = 0;
  dropped = 0;
  bytes = 7;
  past = 0;
  tickets = 1;
  pass = 0;
  link = Torn;
}

torn_flow : FlowLine
torn_flow = record {
  flow = 1;
  name = codes "a";
  tickets = 1;
  waiting = 0;
  account = 128;
  standing = In;
  place = pos 1168231104512;
}

torn_link_shows : report_text torn_totals (torn_flow ∷ [])
    ≡ codes "clock                           64\n"
    ++ codes "accepted                         1\n"
    ++ codes "written                          0\n"
    ++ codes "torn                             1\n"
    ++ codes "waiting                          0\n"
    ++ codes "dropped                          0\n"
    ++ codes "bytes                            7\n"
    ++ codes "past                             0\n"
    ++ codes "tickets                          1\n"
    ++ codes "pass                             0\n"
    ++ codes "link                             2\n"
    ++ codes "flow        1 a                      1    0               128 in               1168231104512\n"
    ++ codes "end\n"
unfolding torn_totals torn_flow report_text totals_text total_line flow_line at_left at_right digits
torn_link_shows = refl
