-- An outbox with two frames, checked against a worked example.
use Rattle.std.specs.Prelude.{◌≡◌, ℕ, List, [], ◌∷◌, ◌++◌, true, false, refl}
use Rattle.share_gateway.specs.Outbox.{OutboxView, empty_outbox, takes, room_of, with_frame, allow_more, ready_of}
use Rattle.share_gateway.specs.Outbox.{passed, send_more, begun_again}

-- the frames of the first two packets of flow 1, of one byte each
abbrev first_frame : List ℕ
first_frame = 76 ∷ 2 ∷ 1 ∷ 0 ∷ 0 ∷ 0 ∷ 1 ∷ 0 ∷ 0 ∷ 0 ∷ 0 ∷ 0 ∷ 0 ∷ 0 ∷ 1 ∷ 0 ∷ 1 ∷ 97 ∷ []

abbrev second_frame : List ℕ
second_frame = 76 ∷ 2 ∷ 1 ∷ 0 ∷ 0 ∷ 0 ∷ 1 ∷ 0 ∷ 0 ∷ 0 ∷ 0 ∷ 0 ∷ 0 ∷ 0 ∷ 2 ∷ 0 ∷ 1 ∷ 98 ∷ []

abbrev both : OutboxView
both = with_frame (with_frame empty_outbox first_frame) second_frame

-- nothing may go before it is allowed, and then no more than is there
none_ready : ready_of both ≡ []
none_ready = refl

five_ready : ready_of (allow_more 5 both) ≡ 76 ∷ 2 ∷ 1 ∷ 0 ∷ 0 ∷ []
five_ready = refl

all_ready : ready_of (allow_more 100 both) ≡ first_frame ++ second_frame
all_ready = refl

-- 20 of the 36 bytes are out: the first frame, and two bytes of the second
abbrev cut : OutboxView
cut = send_more 20 (allow_more 36 both)

two_out : cut ≡ record { frames = second_frame ∷ []; out = 2; allowed = 18 }
unfolding passed
two_out = refl

-- the second frame begins again
whole_again : ready_of (begun_again cut) ≡ second_frame
unfolding passed
whole_again = refl

-- all 36 bytes are out
none_left : send_more 36 (allow_more 36 both) ≡ empty_outbox
unfolding passed
none_left = refl

none_again : begun_again (send_more 36 (allow_more 36 both)) ≡ empty_outbox
unfolding passed
none_again = refl

-- 65500 bytes are room for a frame of 65500 bytes, and for none of 65501
room_left : room_of both ≡ 65500
room_left = refl

just_room : takes both 65500 ≡ true
just_room = refl

no_room : takes both 65501 ≡ false
no_room = refl
