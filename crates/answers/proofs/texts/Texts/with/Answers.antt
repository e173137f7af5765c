use Rattle.std.proofs.Common.{rules, ◌≡◌, ◌++◌, length, string_bytes}
use Rattle.answers.proofs.PieceLaws.{cuts-push, pieces-push}
use Rattle.answers.proofs.texts.Texts.with.Goals as goal

pub invariant_of-result : goal.invariant_of-result
invariant_of-result c =
    let bytes : string_bytes c.push_str.new.self ≡ string_bytes c.self.inside.bytes ++ c.args.text.now = c.in_ok-push_str.ensures.bytes in
    let len : c.len.result ≡ length (string_bytes c.self.inside.bytes ++ c.args.text.now) = search (rules, bytes) in
    rw (bytes, c.in_ok-push.ensures.items, len) (cuts-push (string_bytes c.self.inside.bytes) c.args.text.now c.self.inside.places.items c.utf8.text c.self.invariant)

pub returns : goal.returns
returns c =
    let bytes : string_bytes c.push_str.new.self ≡ string_bytes c.self.inside.bytes ++ c.args.text.now = c.in_ok-push_str.ensures.bytes in
    let len : c.len.result ≡ length (string_bytes c.self.inside.bytes ++ c.args.text.now) = search (rules, bytes) in
    rw (bytes, c.in_ok-push.ensures.items, len, ← c.self.view_is) (pieces-push (string_bytes c.self.inside.bytes) c.args.text.now c.self.inside.places.items c.self.invariant)
