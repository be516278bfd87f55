-- Lines and the orders that they spell.
use Rattle.std.specs.Prelude.{◌≡◌, codes, refl, None, Some}
use Rattle.share_orders.specs.Orders.{order_in}
use Rattle.std.specs.Fmt.{digits}
use Rattle.share_model.specs.text.Lines.{number_of}
use Rattle.share_orders.specs.declared.orders.Order.TheVariants.{Report, Status, Hold, Resume, Amend, Rotate, Reload}
use Rattle.share_orders.specs.declared.orders.Order.TheVariants.{End}

report_line : order_in (codes "report") ≡ Some Report
report_line = refl

status_line : order_in (codes "status") ≡ Some Status
status_line = refl

hold_line : order_in (codes "hold acme") ≡ Some (Hold (codes "acme"))
hold_line = refl

resume_line : order_in (codes "resume acme") ≡ Some (Resume (codes "acme"))
resume_line = refl

amend_line : order_in (codes "amend gold 1 300") ≡ Some (Amend (codes "gold") 1 300)
unfolding number_of digits
amend_line = refl

amend_with_zero : order_in (codes "amend gold 01 300") ≡ None
unfolding number_of digits
amend_with_zero = refl

rotate_line : order_in (codes "rotate") ≡ Some Rotate
rotate_line = refl

reload_line : order_in (codes "reload") ≡ Some Reload
reload_line = refl

end_line : order_in (codes "end") ≡ Some End
end_line = refl

-- a word too many, a word too few, two spaces, another case, and no word
report_of_one : order_in (codes "report acme") ≡ None
report_of_one = refl

hold_of_none : order_in (codes "hold") ≡ None
hold_of_none = refl

two_spaces : order_in (codes "hold  acme") ≡ None
two_spaces = refl

upper_case : order_in (codes "Report") ≡ None
upper_case = refl

no_word : order_in (codes "") ≡ None
no_word = refl

script_line : order_in (codes "turn 100") ≡ None
script_line = refl
