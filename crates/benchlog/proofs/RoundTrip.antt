-- A put item reads back as its frame. Assumes nothing.
use Rattle.std.proofs.Common.{◌≡◌, zero, ◌+◌, arith, ◌∷◌, ◌++◌, length, Ok, Err, cond, ap, ◌∙◌, false, nat_lt}
use Rattle.bus.specs.declared.frame.Frame.{Frame}
use Rattle.bus.specs.declared.refusal.Refusal.TheVariants.{CutShort}
use Rattle.bus.specs.Frames.{of_body}
use Rattle.house.specs.declared.call.Call.TheVariants.{Put as PutCall}
use Rattle.benchlog.specs.declared.kind.ItemKind.TheVariants.{Put}
use Rattle.benchlog.specs.Items.{LogItem}
use Rattle.benchlog.specs.Reading.{reading, followed}
use Rattle.benchlog.specs.Bytes.{body_of, put_item}
use Rattle.benchlog.specs.PutItems.{ReadsBack}

pub read_back : (f : Frame) → of_body (body_of f) ≡ f → ReadsBack f (put_item f)
read_back f e n rest =
    let i : LogItem = record { kind = Put; body = body_of f; place = n } in
    let whole : nat_lt (length (body_of f ++ rest)) 12 ≡ false = search arith in
    (i, ap (λ b. followed (cond b (Err CutShort) (Ok i)) n (λ m. reading m (n + 1) (body_of f ++ rest))) whole ∙ ap (λ m. Ok i ∷ reading zero m rest) (omega arith), ap PutCall e)
