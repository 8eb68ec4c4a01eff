use Rattle.std.proofs.Common.{arith, ap, sym, ◌∙◌, ◌+◌, ◌-◌, ◌∷◌, [], take, set, length-append}
use Rattle.std.specs.List.{flat_map}
use Rattle.std.proofs.lemmas.List.{take_all}
use Rattle.house.specs.Turns.{copied_in}
use Rattle.benchlog.specs.Bytes.{sent_bytes}
use Rattle.benchlog.proofs.Copies.{copied_more, first_counted, bytes_counted, bytes_more, byte_more}
use borrow.Rule.Slice.PartMut.{put_mid}
use Rattle.benchlog.proofs.answering.write_served.Goals as goal

pub loop-frame-preserved : goal.loop-frame-preserved
loop-frame-preserved c =
    let l = c.loop-frame in
    let fs = c.args.sent.now in
    let old = c.args.buffer.now in
    let done = flat_map sent_bytes (take l.frame-index fs) in
    let before = c.loop-frame.invariant in
    let counted = first_counted fs l.frame-index (omega (arith, c.loop-frame-test.true)) in
    record {
      count = omega (arith, before.count);
      bytes =
          ap (λ b. put_mid l.at (l.at + 13 - l.at) b c.copy_from_slice.new.self) before.bytes
          ∙ copied_more done _ old c.copy_from_slice.new.self l.at (l.at + 13 - l.at) (before.count ∙ sym counted) (omega arith) (c.copy_from_slice.ensures.after ∙ c.tagged.ensures.value)
          ∙ ap (λ t. copied_in t old) (bytes_more fs l.frame-index _ c.loop-frame-test.true);
    }

pub returns-clause-count : goal.returns-clause-count
returns-clause-count c =
    let fs = c.args.sent.now in
    omega (arith, c.loop-frame.invariant.count, c.loop-frame-test.false, c.loop-frame.auto.frame-index-end, bytes_counted fs, length-append (flat_map sent_bytes fs) (0x80 ∷ []))

pub returns-clause-bytes : goal.returns-clause-bytes
returns-clause-bytes c =
    let l = c.loop-frame in
    let fs = c.args.sent.now in
    let old = c.args.buffer.now in
    let all = take_all l.frame-index fs c.loop-frame-test.false in
    let done = flat_map sent_bytes fs in
    ap (λ b. set b l.at 0x80) (c.loop-frame.invariant.bytes ∙ ap (λ gs. copied_in (flat_map sent_bytes gs) old) all)
    ∙ byte_more done old l.at 0x80 (omega (arith, c.loop-frame.invariant.count, c.loop-frame-test.false, c.loop-frame.auto.frame-index-end, bytes_counted fs)) (omega (arith, c.requires, c.loop-frame.invariant.count, c.loop-frame-test.false, c.loop-frame.auto.frame-index-end))
