-- What is known of a log, where it is known what a reader gives. Assumes nothing.
use Rattle.std.proofs.Common.{◌≡◌, ◌⊎◌, inl, inr, ℕ, List, [], ◌++◌, take, Some, None, Option, Ok, Err, Result, subst, sym, ap, refl, ◌∙◌}
use Rattle.std.specs.Option.{option_map, IfSome}
use Rattle.std.specs.Result.{IfOk, IfErr}
use Rattle.hextext.specs.declared.error.ReadError.{ReadError}
use Rattle.hextext.specs.declared.error.ReadError.TheVariants as read
use Rattle.hextext.specs.Reading.{meaning, SaysAByte}
use Rattle.input.specs.declared.error.LogError.{LogError}
use Rattle.input.specs.declared.error.LogError.TheVariants.{Unreadable, Text, NoMemory}
use Rattle.input.specs.declared.form.Form.{Form}
use Rattle.input.specs.declared.form.Form.TheVariants.{Hex}
use Rattle.input.specs.Forms.{Reads, without_mark}
use Rattle.input.specs.Faults.{IsFaultIn, IsFaultOf}

-- what is read with a limit is the first part
pub limited : (given : Option (List ℕ)) (limit : ℕ) (before all : List ℕ) → limit ≡ 60000 → before ≡ [] → IfSome (option_map (take limit) given) (λ xs. all ≡ before ++ xs) → IfSome given (λ xs. all ≡ take 60000 xs)
limited None limit before all e f h = tt
limited (Some xs) limit before all e f h = h ∙ ap (λ b. b ++ take limit xs) f ∙ ap (λ n. take n xs) e

-- what was read as text is what was given
pub as_given : {A E : Type 0} (items : A → List ℕ) (r : Result A E) (given : Option (List ℕ)) (all : List ℕ) (form : List ℕ → Form) → form all ≡ Hex → IfSome given (λ bytes. all ≡ bytes) → IfOk r (λ log. Reads Hex all (items log)) → IfOk r (λ log. IfSome given (λ bytes. Reads (form bytes) bytes (items log)))
as_given items (Err x) given all form e f h = tt
as_given items (Ok log) None all form e f h = tt
as_given items (Ok log) (Some bytes) all form e f h = subst (λ bs. Reads (form bs) bs (items log)) f (subst (λ k. Reads k all (items log)) (sym e) h)

-- and so is its fault
pub as_faulty : {A : Type 0} (r : Result A LogError) (given : Option (List ℕ)) (all : List ℕ) (form : List ℕ → Form) → form all ≡ Hex → IfSome given (λ bytes. all ≡ bytes) → IfErr r (λ e. IsFaultOf e Hex all) → IfErr r (λ e. IfSome given (λ bytes. IsFaultOf e (form bytes) bytes))
as_faulty (Ok log) given all form e f h = tt
as_faulty (Err x) None all form e f h = tt
as_faulty (Err x) (Some bytes) all form e f h = subst (λ bs. IsFaultOf x (form bs) bs) f (subst (λ k. IsFaultOf x k all) (sym e) h)

-- what a text is told to be at fault for is its fault
pub told_fault : (bytes text : List ℕ) (fault : ReadError) (e : LogError) → text ≡ without_mark bytes → ((fault ≡ read.NoMemory) × SaysAByte text) ⊎ (meaning text ≡ Err fault) → IsFaultIn text fault e → IsFaultOf e Hex bytes
told_fault bytes text fault (Unreadable x) same known h = tt
told_fault bytes text fault NoMemory same known h = tt
told_fault bytes text fault (Text told word) same (inl none) h = absurd (subst (λ f. IsFaultIn text f (Text f word)) none.0 (subst (λ f. IsFaultIn text fault (Text f word)) h.0 h)).1
told_fault bytes text fault (Text told word) same (inr m) h =
    let at_bytes : IsFaultIn (without_mark bytes) fault (Text told word) = subst (λ t. IsFaultIn t fault (Text told word)) same h in
    let means : meaning (without_mark bytes) ≡ Err fault = subst (λ t. meaning t ≡ Err fault) same m in
    subst (λ f. IsFaultOf (Text f word) Hex bytes) (sym h.0) (means, (refl, at_bytes.1))
