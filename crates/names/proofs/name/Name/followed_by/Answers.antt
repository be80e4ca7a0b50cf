use Rattle.std.proofs.Common.{◌≡◌, ◌++◌, length, ap, ◌∙◌, arith, length-append, length-take}
use Rattle.names.specs.Names.{bytes_of, made_of}
use Rattle.names.proofs.Filling.{followed_is_made, too_long_for_a_name}
use Rattle.names.proofs.name.Name.followed_by.Goals as goal

pub returns-then-text-start : goal.returns-then-text-start
returns-then-text-start c =
    let h : length c.args.self.now.bytes ≡ 255 = omega arith in
    too_long_for_a_name (bytes_of c.args.self.now ++ c.args.text.now)
    (omega (arith, c.from-start.ensures, c.if-text-start.true, length-take c.args.self.now.len c.args.self.now.bytes, length-append (bytes_of c.args.self.now) c.args.text.now))

pub returns : goal.returns
returns c =
    let h : length c.args.self.now.bytes ≡ 255 = omega arith in
    let long : length c.as_bytes.result.now ≡ c.from-start.result = ap length c.as_bytes.ensures ∙ omega (arith, c.from-start.ensures, length-take c.args.self.now.len c.args.self.now.bytes) in
    followed_is_made c.as_bytes.result.now c.args.text.now c.put_first.new.bytes c.put_first-2.new.bytes c.from-start.result long (omega arith) c.put_first.ensures c.put_first-2.ensures
    ∙ ap (λ front. made_of (front ++ c.args.text.now)) c.as_bytes.ensures
