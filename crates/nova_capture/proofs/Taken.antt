-- A record that was taken from the input in two pieces.
use Rattle.std.proofs.Common.{◌≡◌, ◌≢◌, ℕ, ◌+◌, ◌≤◌, ◌<◌, List, [], ◌∷◌, ◌++◌, Option, Some, None, Result, Ok, Err, length, take, refl, sym, ap, ◌∙◌, subst, arith, append_assoc, length-append, take_at, inl, inr, ◌⊎◌}
use Rattle.std.specs.Io.KnownBytes.{Consumes, IsAtEnd}
use Rattle.nova_capture.specs.declared.state.State.{State}
use Rattle.nova_capture.specs.declared.state.Position.{Position}
use Rattle.nova_capture.specs.declared.state.Format.{Format}
use Rattle.nova_capture.specs.declared.state.Format.TheVariants as formats
use Rattle.nova_capture.specs.declared.fault.Fault.{Fault}
use Rattle.nova_capture.specs.declared.fault.Fault.TheVariants.{Cut}
use Rattle.nova_capture.specs.declared.fault.ReadError.{ReadError}
use Rattle.nova_capture.specs.declared.fault.ReadError.TheVariants as errors
use Rattle.nova_capture.specs.Record.{head_in, head_of, record_len_at}
use Rattle.nova_capture.specs.Stream.{IsWhole, IsCut, ReadsFault, ReadsError, broken_at}

pub consumes_both : (a b c : Option (List ℕ)) (xs ys all : List ℕ) → all ≡ xs ++ ys → Consumes a b xs → Consumes b c ys → Consumes a c all
consumes_both None b c xs ys all e f g = tt
consumes_both (Some x) None c xs ys all e f g = absurd f
consumes_both (Some x) (Some y) None xs ys all e f g = absurd g
consumes_both (Some x) (Some y) (Some z) xs ys all e f g = f ∙ ap (λ l. xs ++ l) g ∙ sym (append_assoc xs ys z) ∙ ap (λ l. l ++ z) (sym e)

-- the head of both pieces
head_is : (s : State) (first bytes all : List ℕ) → all ≡ first ++ bytes → length first ≡ head_of s → take (head_of s) all ≡ first
head_is s first bytes all e l = ap (take (head_of s)) e ∙ take_at first bytes (head_of s) l

pub whole_record : (s : State) (first bytes all : List ℕ) (len : ℕ) → all ≡ first ++ bytes → length first ≡ head_of s → record_len_at s first ≡ Ok len → head_of s ≤ len → length all ≡ len → IsWhole s all
whole_record s first bytes all len e l is h n = (omega (arith, h, n), ap (record_len_at s) (head_is s first bytes all e l) ∙ is ∙ ap Ok (sym n))

-- a head has some bytes
head-some : (f : Format) → 0 < head_in f
head-some formats.Start = omega arith
head-some (formats.Pcap order precision) = omega arith
head-some (formats.Blocks order) = omega arith

pub cut_record : (s : State) (first bytes all : List ℕ) (len : ℕ) → all ≡ first ++ bytes → length first ≡ head_of s → record_len_at s first ≡ Ok len → length all < len → IsCut s all
cut_record s first bytes all len e l is n =
    let long : length all ≡ length first + length bytes = ap length e ∙ length-append first bytes in
    let some : 0 < head_of s = head-some s.format in
    record {
      begun = λ none. let nothing : length all ≡ 0 = ap length none in absurd (omega (arith, long, nothing, some, l));
      missing = λ _. (len, ap (record_len_at s) (head_is s first bytes all e l) ∙ is, n);
    }

-- what is told of a fault
pub told : (s : State) (old new : Option (List ℕ)) (e : ReadError) (fault : Fault) (at : Position) → e ≡ errors.Broken (broken_at fault at) → ReadsFault s old new fault → ReadsError s old new e
told s old new e fault at is fault-is = subst (ReadsError s old new) (sym is) fault-is

pub told_cut : (s : State) (old new : Option (List ℕ)) (first bytes all : List ℕ) (len : ℕ) (at : Position) (e : ReadError) → e ≡ errors.Broken (broken_at Cut at)
    → all ≡ first ++ bytes → length first ≡ head_of s → record_len_at s first ≡ Ok len → length all < len → Consumes old new all → IsAtEnd new → ReadsError s old new e
told_cut s old new first bytes all len at e told-is is l said n consumed end =
    told s old new e Cut at told-is (record { front = all; consumed = consumed; why = inr (refl, cut_record s first bytes all len is l said n, end) })
