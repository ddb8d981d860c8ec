-- Lists of calls keep what stands.
use Rattle.std.proofs.Common.{◌≡◌, ℕ, ◌+◌, ◌<◌, List, [], ◌∷◌, ◌++◌, length, get_or, take, drop, Ok, Err, Result, sym, refl, ap, ◌∙◌, subst}
use Rattle.std.proofs.lemmas.List.{take_more, append_assoc, append-nil, drop_more, take-append-drop}
use Rattle.runs.specs.Editions.{Edition, State}
use Rattle.runs.specs.History.{Event, calls_of}
use Rattle.runs.specs.Logs.{event_of, backwards, Noted, Kept, Broken, Carried}
use Rattle.runs.specs.declared.calls.Call.{Call}
use Rattle.runs.specs.declared.log.Entry.{Entry}

pub history_push : (xs : List Entry) (x : Entry) → backwards (xs ++ (x ∷ [])) ≡ event_of x ∷ backwards xs
history_push [] x = refl
history_push (y ∷ xs) x = ap (λ z. z ++ (event_of y ∷ [])) (history_push xs x)

-- a call was carried out, and then noted or not
pub noted : {T E : Type 0} (k : Edition) (x : State) (es : List Event) (x' : State) (es' : List Event) (e : Event)
    → Kept k x es x' (e ∷ es) → (r : Result T E) → Noted es e es' r → Carried k x es (e.call ∷ []) x' es' r
noted k x es x' es' e f (Ok _) h = record {
  kept = subst (λ (z : List Event). Kept k x es x' z) (sym h) f;
  calls = ap calls_of h;
}
noted k x es x' es' e f (Err _) h = record {
  last = e;
  rest = [];
  kept = subst (λ (z : List Event). Kept k x es x' (e ∷ z)) (sym h) f;
  calls = sym (append-nil _ ∙ ap (λ z. calls_of z ++ (e.call ∷ [])) h);
}

pub calls_next : {x y : List Call} (o cs : List Call) (i : ℕ) (d : Call) → i < length cs → x ≡ y ++ (get_or cs i d ∷ []) → y ≡ o ++ take i cs → x ≡ o ++ take (i + 1) cs
calls_next {x} {y} o cs i d h a b =
    a ∙ ap (λ z. z ++ (get_or cs i d ∷ [])) b ∙ append_assoc o (take i cs) (get_or cs i d ∷ []) ∙ ap (λ z. o ++ z) (sym (take_more cs i d h))

-- the note of a call failed after i of the calls
pub breaks : {k : Edition} {x₀ x x' : State} (es₀ es es' : List Event) (cs : List Call) (i : ℕ) (d : Call) → i < length cs
    → Broken k x es (get_or cs i d ∷ []) x' es' → Kept k x₀ es₀ x es → calls_of es ≡ calls_of es₀ ++ take i cs → Broken k x₀ es₀ cs x' es'
breaks es₀ es es' cs i d lt h f q =
    let c = get_or cs i d in
    let end = drop (i + 1) cs in
    record {
      last = h.last;
      rest = h.rest ++ end;
      kept = λ b p st. h.kept b p (f b p st);
      calls =
          ap (λ l. calls_of es₀ ++ l) (sym (take-append-drop i cs))
          ∙ sym (append_assoc (calls_of es₀) (take i cs) (drop i cs))
          ∙ ap (λ l. l ++ drop i cs) (sym q)
          ∙ ap (λ l. calls_of es ++ l) (drop_more cs i d lt)
          ∙ sym (append_assoc (calls_of es) (c ∷ []) end)
          ∙ ap (λ l. l ++ end) h.calls
          ∙ append_assoc (calls_of (h.last ∷ es')) h.rest end;
    }

-- ---- the edition stays

module _ {k k' : Edition} {x x' : State} (es es' : List Event) where
  pub kept_of : k' ≡ k → Kept k' x es x' es' → Kept k x es x' es'
  kept_of e = subst (λ (z : Edition). Kept z x es x' es') e

  pub broken_of : {cs : List Call} → k' ≡ k → Broken k' x es cs x' es' → Broken k x es cs x' es'
  broken_of {cs} e = subst (λ (z : Edition). Broken z x es cs x' es') e

pub carried_err : {T E : Type 0} {k : Edition} {x x' : State} {cs : List Call} (es es' : List Event) (r : Result T E) (v : E) → r ≡ Err v
    → Broken k x es cs x' es' → Carried {T = T} {E = E} k x es cs x' es' r
carried_err {T} {E} {k} {x} {x'} {cs} es es' r v e h = subst (λ (z : Result T E). Carried {T = T} {E = E} k x es cs x' es' z) (sym e) h
