use Rattle.std.proofs.Common.{rules, sym, ◌∙◌}
use Rattle.share_gateway_words.proofs.ask_words.ask_orders.Goals as goal

pub returns-in-Ok-Some : goal.returns-in-Ok-Some
returns-in-Ok-Some c =
    let items = c.as_slice.ensures.value in
    record {
      spelled = sym c.in-Ok-Some.ensures ∙ c.in-Ok-Some.field-0-is;
      some_line = rw (← items) (c.if-not-are_lines.ensures.some (search rules));
      each_line = rw (← items) (c.if-not-are_lines.ensures.each (search rules));
    }
