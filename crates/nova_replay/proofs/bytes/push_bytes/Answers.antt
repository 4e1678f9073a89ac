use Rattle.std.proofs.Common.{rules, arith, ◌≡◌, ◌++◌, ◌*◌, ◌/◌, ◌%◌, ◌<◌, ◌≤◌, length, take, get_or, sym, ap, ◌∙◌, append_assoc}
use Rattle.std.specs.Int.{w32, to_be_bytes}
use Rattle.nova_replay.specs.Frames.{bytes_of}
use Rattle.nova_replay.proofs.TakenBytes.{take_bytes}
use Rattle.nova_replay.proofs.bytes.push_bytes.Goals as goal

pub returns : goal.returns
returns c =
    let words = c.args.words.now in
    let whole = c.args.count / 4 in
    let left = c.args.count % 4 in
    let out = c.args.out.now.items in
    let last = take left (to_be_bytes w32 (get_or words whole 0)) in
    let inside : whole < length words = omega (arith, c.if-whole-words.false, c.if-whole-words-2.false) in
    let parts : take c.args.count (bytes_of words) ≡ bytes_of (take whole words) ++ last = take_bytes c.args.count whole left words (omega arith) (omega arith) inside in
    let front : c.push_bytes_of-2.new.out.items ≡ out ++ bytes_of (take whole words) = search rules in
    let more : c.extend_from_slice.new.self.items ≡ c.push_bytes_of-2.new.out.items ++ last = search rules in (
      omega (arith, inside),
      more ∙ ap (λ bytes. bytes ++ last) front ∙ append_assoc out (bytes_of (take whole words)) last ∙ ap (λ bytes. out ++ bytes) (sym parts),
    )
