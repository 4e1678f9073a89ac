-- One more step behind a replay.
use Rattle.std.proofs.Common.{ℕ, zero, suc, ◌+◌, List, [], ◌++◌, Option, Some, None, refl, sym, ap, ◌∙◌, subst, append_assoc, inl, inr, Ok, Err}
use Rattle.std.proofs.lemmas.List.{append-nil}
use Rattle.std.specs.Io.KnownBytes.{Consumes, Appends, Keeps}
use Rattle.nova_capture.proofs.Taken.{consumes_both}
use Rattle.nova_capture.specs.Stream.{Place, ReadsError, ReadsItem, ReadsNothing}
use Rattle.nova_capture.specs.declared.fault.ReadError.{ReadError}
use Rattle.nova_capture.specs.declared.item.Item.{Item}
use Rattle.nova_capture.specs.declared.state.State.{State as Format}
use Rattle.nova_capture.specs.declared.state.Position.{Position}
use Rattle.nova_replay.specs.declared.copying.Stop.TheVariants as stops
use Rattle.nova_replay.specs.declared.packet.State.{State}
use Rattle.nova_replay.specs.declared.plan.Plan.{Plan}
use Rattle.nova_replay.specs.Replaying.{Moment, IsHandled, IsOver, IsStep, Replays, IsReplay, IsWholeReplay, moment}

pub one-more : (plan : Plan) (n : ℕ) (m next after : Moment) (read front written w : List ℕ)
    → Replays plan n m read written next → IsStep plan next front w after → Replays plan (suc n) m (read ++ front) (written ++ w) after
one-more plan zero m next after read front written w r s =
    record {
      front = front;
      first = w;
      next = after;
      more = [];
      rest = [];
      begins = subst (λ from. IsStep plan from front w after) r.2 s;
      goes_on = (refl, refl, refl);
      all_read = ap (λ x. x ++ front) r.0 ∙ sym (append-nil front);
      all_written = ap (λ x. x ++ w) r.1 ∙ sym (append-nil w);
    }
one-more plan (suc n) m next after read front written w r s =
    record {
      front = r.front;
      first = r.first;
      next = r.next;
      more = r.more ++ front;
      rest = r.rest ++ w;
      begins = r.begins;
      goes_on = one-more plan n r.next next after r.more front r.rest w r.goes_on s;
      all_read = ap (λ x. x ++ front) r.all_read ∙ append_assoc r.front r.more front;
      all_written = ap (λ x. x ++ w) r.all_written ∙ append_assoc r.first r.rest w;
    }

pub appends-more : (a b c : Option (List ℕ)) (xs ys : List ℕ) → Appends a b xs → Appends b c ys → Appends a c (xs ++ ys)
appends-more None b c xs ys f g = tt
appends-more (Some x) None c xs ys f g = absurd f
appends-more (Some x) (Some y) None xs ys f g = absurd g
appends-more (Some x) (Some y) (Some z) xs ys f g = g ∙ ap (λ l. l ++ ys) f ∙ append_assoc x xs ys

pub keeps-appends : (a b : Option (List ℕ)) → Keeps a b → Appends a b []
keeps-appends None b k = tt
keeps-appends (Some x) None k = absurd k
keeps-appends (Some x) (Some y) k = k ∙ sym (append-nil x)

pub consumes-nothing : (a : Option (List ℕ)) → Consumes a a []
consumes-nothing None = tt
consumes-nothing (Some x) = refl

pub appends-nothing : (a : Option (List ℕ)) → Appends a a []
appends-nothing None = tt
appends-nothing (Some x) = sym (append-nil x)

-- the replay so far, and a step of it
pub replay_more : (plan : Plan) (m next after : Moment) (a b c x y z : Option (List ℕ)) (front w : List ℕ)
    → IsReplay plan m a b x y next → IsStep plan next front w after → Consumes b c front → Appends y z w → IsReplay plan m a c x z after
replay_more plan m next after a b c x y z front w r s eats puts =
    record {
      count = suc r.count;
      read = r.read ++ front;
      written = r.written ++ w;
      replays = one-more plan r.count m next after r.read front r.written w r.replays s;
      consumed = consumes_both a b c r.read front (r.read ++ front) refl r.consumed eats;
      appended = appends-more x y z r.written w r.appended puts;
    }

pub replay_none : (plan : Plan) (m : Moment) (a x : Option (List ℕ)) → IsReplay plan m a a x x m
replay_none plan m a x = record { count = zero; read = []; written = []; replays = (refl, refl, refl); consumed = consumes-nothing a; appended = appends-nothing x }

-- a replay, and one more item of the input
pub replay_item : (plan : Plan) (start : Moment) (a b c x y z : Option (List ℕ)) (s s' : State) (at now : Position) (f f' : Format) (item : Item) (bytes w : List ℕ)
    → IsReplay plan start a b x y (moment at f s) → ReadsItem at b c item bytes now → Appends y z w
    → IsHandled plan at.offset (moment now f s) item bytes (moment now f' s') w → IsReplay plan start a c x z (moment now f' s')
replay_item plan start a b c x y z s s' at now f f' item bytes w r reads puts h =
    let step : IsStep plan (moment at f s) reads.front w (moment now f' s') = record {
      item = item;
      bytes = bytes;
      says = reads.says;
      handled = subst (λ p. IsHandled plan at.offset (moment p f s) item bytes (moment now f' s') w) reads.further h;
    } in
    replay_more plan start (moment at f s) (moment now f' s') a b c x y z reads.front w r step reads.consumed puts

-- a replay that ends so is whole
pub replay_over : (plan : Plan) (start after : Moment) (a b x y : Option (List ℕ)) → IsReplay plan start a b x y after → IsOver plan after.at.packets
    → IsWholeReplay plan start a b x y after (Ok tt)
replay_over plan start after a b x y r over = record { rest = b; replay = r; ends = inl (over, refl) }

pub replay_done : (plan : Plan) (start after : Moment) (a b c x y : Option (List ℕ)) → IsReplay plan start a b x y after → ReadsNothing after.at.state b
    → IsWholeReplay plan start a c x y after (Ok tt)
replay_done plan start after a b c x y r nothing = record { rest = b; replay = r; ends = inr nothing }

pub replay_broken : (plan : Plan) (start after : Moment) (a b c x y : Option (List ℕ)) (e : ReadError) → IsReplay plan start a b x y after → ReadsError after.at.state b c e
    → Place after.at e → IsWholeReplay plan start a c x y after (Err (stops.Read e))
replay_broken plan start after a b c x y e r error place = record { rest = b; replay = r; ends = (error, place) }
