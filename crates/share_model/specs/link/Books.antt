-- The books of the open flows, and what is posted to them.
use Rattle.std.specs.Prelude.{ℕ, Bool, false, List, find, nat_eq, Option, None, Some}
use Rattle.share_model.specs.declared.link.Book.{Book}
use Rattle.share_model.specs.declared.rates.Rate.{Rate}
use Rattle.share_model.specs.link.Tariff.{rate_of, units_of, post_of}
use Rattle.share_model.specs.lists.Change.{change_first}

abbrev pub new_book : ℕ → ℕ → Book
new_book f tariff = record { flow = f; tariff = tariff; account = 0; held = false }

abbrev pub is_book_of : ℕ → Book → Bool
is_book_of f b = nat_eq f b.flow

-- the account of a flow, and 0 if it is not open
abbrev pub account_in : Option Book → ℕ
account_in None = 0
account_in (Some b) = b.account

abbrev pub account_of : List Book → ℕ → ℕ
account_of books f = account_in (find (is_book_of f) books)

-- the number of a flow's tariff, and 0 if it is not open
abbrev pub tariff_in : Option Book → ℕ
tariff_in None = 0
tariff_in (Some b) = b.tariff

abbrev pub tariff_of : List Book → ℕ → ℕ
tariff_of books f = tariff_in (find (is_book_of f) books)

-- Holds

-- whether a flow is held: no flow is that is not open
abbrev pub is_held_by : Option Book → Bool
is_held_by None = false
is_held_by (Some b) = b.held

abbrev pub is_held : List Book → ℕ → Bool
is_held books f = is_held_by (find (is_book_of f) books)

-- the flow is held from this event on, or its hold ends
abbrev pub with_hold : Bool → Book → Book
with_hold held b = record b { held = held }

abbrev pub books_with_hold : List Book → ℕ → Bool → List Book
books_with_hold books f held = change_first (is_book_of f) (with_hold held) books

-- The posted amount

-- the units of n bytes under a flow's tariff
abbrev pub units_by : List Rate → ℕ → Option Book → ℕ
units_by rates n None = 0
units_by rates n (Some b) = units_of (rate_of rates b.tariff) n

abbrev pub units_due : List Rate → List Book → ℕ → ℕ → ℕ
units_due rates books f n = units_by rates n (find (is_book_of f) books)

-- the account of a flow is posted for these units
abbrev pub with_units : List Rate → ℕ → Book → Book
with_units rates units b = record b { account = post_of (rate_of rates b.tariff) b.account units }

abbrev pub books_with_units : List Rate → List Book → ℕ → ℕ → List Book
books_with_units rates books f units = change_first (is_book_of f) (with_units rates units) books
