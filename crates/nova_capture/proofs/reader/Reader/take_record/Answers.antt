use Rattle.std.proofs.Common.{rules, ◌≡◌, ◌<◌, ◌++◌, ℕ, List, Ok, length, ap, sym, ◌∙◌}
use Rattle.std.specs.Io.KnownBytes.{Consumes, IsAtEnd}
use Rattle.nova_capture.specs.Record.{head_of, record_len_at}
use Rattle.nova_capture.proofs.Taken.{consumes_both, told_cut}
use Rattle.nova_capture.proofs.reader.Reader.take_record.Goals as goal

pub returns-then-len-clause-fault : goal.returns-then-len-clause-fault
returns-then-len-clause-fault g c =
    let s = c.args.self.now.position.state in
    let old = g.R.Read.remaining c.args.self.now.input in
    let middle = g.R.Read.remaining c.fill.new.input in
    let new = g.R.Read.remaining c.fill-2.new.input in
    let first = c.fill.new.into.items in
    let all = c.fill-2.new.into.items in
    let a = c.in_default.ensures.read.0 in
    let b = c.in_default-fill.ensures.read.0 in
    let front : first ≡ a = c.in_default.ensures.read.1 ∙ ap (λ l. l ++ a) c.clear.ensures.items in
    let both : all ≡ first ++ b = c.in_default-fill.ensures.read.1 in
    let long : length first ≡ head_of s = search rules in
    let said : record_len_at s first ≡ Ok c.in-Ok.len = search rules in
    let short : length all < c.in-Ok.len = search rules in
    let end : IsAtEnd new = search rules in
    let consumed : Consumes old new all = consumes_both old middle new a b all (both ∙ ap (λ l. l ++ b) front) c.in_default.ensures.read.2 c.in_default-fill.ensures.read.2 in
    told_cut s old new first b all c.in-Ok.len c.args.self.now.position c.broken-then-len.result c.broken-then-len.ensures both long said short consumed end
