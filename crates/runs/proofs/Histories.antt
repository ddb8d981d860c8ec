-- Each call keeps what stands.
use Rattle.std.proofs.Common.{◌≡◌, ℕ, ◌+◌, ◌-◌, ◌*◌, ◌<◌, ◌≤◌, min, max, Bool, true, false, cond, ◌&&◌, eqb, leb, ◌⊎◌, List, [], ◌∷◌, ◌++◌, length, drop, Some, None, Ok, Err, Option, Result, sym, refl, ap, ◌∙◌, subst, inl, inr, ⊎_elim, zero-mul, arith}
use Rattle.std.proofs.lemmas.Bool.{cases_eq, cases_lt, and_parts, leb-true, cond-true, cond-false}
use Rattle.std.proofs.lemmas.Bool.Decides.{nat_tests}
use Rattle.pages.specs.Meaning.{fault, laid_at, place_at, length_at, pour_at}
use Rattle.pages.specs.Splice.{splice}
use Rattle.pages.specs.declared.faults.Fault.{Fault}
use Rattle.pages.specs.declared.faults.Refusal.TheVariants.{NoSuch, ShortBuffer}
use Rattle.plan.specs.declared.record.Record.{Record}
use Rattle.job.specs.Calls.{pullable}
use Rattle.runs.specs.Editions.{Edition, State, depth_of, plan_of, print_refusal, cell_at, state}
use Rattle.runs.specs.History.{Event, event, count, reach, last_text, Performed, Stands}
use Rattle.runs.specs.Replies.{Reply, reply, reply_by, reply_to, print_reply, pull_reply, pour_reply, after, is_print, start_of}
use Rattle.runs.specs.declared.calls.Answer.{Answer}
use Rattle.runs.specs.declared.calls.Answer.TheVariants.{Printed, PulledBack, Opened, Ended, Shown, Number, Placed, Refused}
use Rattle.runs.specs.declared.calls.Call.{Call}
use Rattle.runs.specs.declared.calls.Call.TheVariants.{Print, PullBack, Opening, Ending, HowFar, Cell, Size, Leaves, Pages, Depth, Laid, Place, Length, Pour}
use Rattle.runs.proofs.Performing.{Quiet, accepted}
use Rattle.runs.proofs.Planning.{max-left, plan_printed}

-- ---- the three kinds of replies

quiet : {a : Answer} → ((n : ℕ) → after n a ≡ n) → is_print a ≡ false → Quiet a
quiet f e = record { same = f; unprinted = e }

-- a pull-back was accepted
pub record Pulls (n : ℕ) (y : Reply) : Type 0 where
  pub side : ℕ
  pub low : 1 ≤ side
  pub high : side ≤ n + 1
  pub is : y ≡ reply (PulledBack side) []

-- a print was accepted
pub record PrintsSide (k : Edition) (list n : ℕ) (y : Reply) : Type 0 where
  pub more : n < k.sides
  pub lines : (n + 1) * k.per ≤ list
  pub is : y ≡ reply (Printed (length (k.text (n + 1)))) (k.text (n + 1))

abbrev Kind : Edition → ℕ → ℕ → Reply → Type 0
Kind k list n y = Quiet y.answer ⊎ (Pulls n y ⊎ PrintsSide k list n y)

module _ (k : Edition) (room list n : ℕ) where
  of_print : (most : ℕ) (o : Option Fault) → print_refusal k (min most room) list n ≡ o → Kind k list n (print_reply (k.text (n + 1)) o)
  of_print most None h = let r = accepted k (min most room) list n h in inr (inr (record { more = r.more; lines = r.lines; is = refl }))
  of_print most (Some f) h = inl (quiet (λ n. refl) refl)

  of_pull : (s : ℕ) (t : Bool) → pullable n s ≡ t → Kind k list n (pull_reply s (cond t (Ok tt) (Err (fault NoSuch (depth_of k) s))))
  of_pull s true h = let p = and_parts _ _ h in inr (inl (record { side = s; low = leb-true _ _ p.0; high = leb-true _ _ p.1; is = refl }))
  of_pull s false h = inl (quiet (λ n. refl) refl)

  of_text : (f : ℕ → Answer) → ((x : ℕ) → Quiet (f x)) → (t : List ℕ) (d : ℕ) (b : Bool) → Kind k list n (cond b (reply (f (length t)) t) (reply (Refused (fault ShortBuffer d 0)) []))
  of_text f q t d true = inl (q (length t))
  of_text f q t d false = inl (quiet (λ n. refl) refl)

  of_result : {T : Type 0} (f : T → Answer) → ((x : T) → Quiet (f x)) → (r : Result T Fault) → Kind k list n (reply_by f r)
  of_result f q (Ok x) = inl (q x)
  of_result f q (Err e) = inl (quiet (λ n. refl) refl)

  of_pour : (ink : List ℕ) (r : Result ℕ Fault) → Kind k list n (pour_reply ink r)
  of_pour ink (Ok x) = inl (quiet (λ n. refl) refl)
  of_pour ink (Err e) = inl (quiet (λ n. refl) refl)

  kind : (c : Call) → Kind k list n (reply_to k room list n c)
  kind (Print most) = of_print most (print_refusal k (min most room) list n) refl
  kind (PullBack s) = of_pull s (pullable n s) refl
  kind (Opening most) = of_text Opened (λ x. quiet (λ n. refl) refl) k.opening (depth_of k) (leb (length k.opening) (min most room))
  kind (Ending most) = of_text Ended (λ x. quiet (λ n. refl) refl) k.ending (depth_of k) (leb (length k.ending) (min most room))
  kind HowFar = inl (quiet (λ n. refl) refl)
  kind (Cell s i j) = of_result Shown (λ x. quiet (λ n. refl) refl) (cell_at k s i j)
  kind Size = inl (quiet (λ n. refl) refl)
  kind Leaves = inl (quiet (λ n. refl) refl)
  kind Pages = inl (quiet (λ n. refl) refl)
  kind Depth = inl (quiet (λ n. refl) refl)
  kind (Laid p) = of_result Number (λ x. quiet (λ n. refl) refl) (laid_at k.layer p)
  kind (Place p s) = of_result Placed (λ x. quiet (λ n. refl) refl) (place_at k.layer p s)
  kind (Length l) = of_result Number (λ x. quiet (λ n. refl) refl) (length_at k.layer l)
  kind (Pour l at most) = of_pour (k.layer.ink l) (pour_at k.layer l (min most room) at)

-- ---- a call more

pub count_reach : (es : List Event) → count es ≤ reach es
count_reach [] = omega arith
count_reach (e ∷ es) = omega arith

pub stands_new : (k : Edition) (b : List ℕ) (p : List Record) → Stands k b p (state 0 b p) []
stands_new k b p = record {
  counted = refl;
  within = omega arith;
  fits = rw zero-mul (omega arith);
  filled = rw zero-mul refl;
  printed = λ s a b. absurd (omega arith);
  answered = tt;
  held = refl;
  room = refl;
  list = refl;
}

last_here : (x y : Option (List ℕ)) (j s : ℕ) → j ≡ s → cond (eqb j s) x y ≡ x
last_here x y j s e = grind (arith, nat_tests)

last_there : (x y : Option (List ℕ)) (j s : ℕ) → (j ≡ s → ⊥) → cond (eqb j s) x y ≡ y
last_there x y j s d = grind (arith, nat_tests)

module _ {k : Edition} (even : (p : ℕ) → length (k.records p) ≡ k.per) {b₀ : List ℕ} {p₀ : List Record} {x : State} {es : List Event} (st : Stands k b₀ p₀ x es)
    {c : Call} {x' : State} {y : Reply} (d : Performed k c x x' y) (room : length x'.buffer ≡ length x.buffer) (list : length x'.plan ≡ length x.plan) where
  abbrev n : ℕ
  n = x.printed

  replied : y ≡ reply_to k (length b₀) (length p₀) (count es) c
  replied = d.replied ∙ ap (λ z. reply_to k z (length x.plan) n c) st.room ∙ ap (λ z. reply_to k (length b₀) z n c) st.list ∙ ap (λ z. reply_to k (length b₀) (length p₀) z c) st.counted

  goes_on : (r : ℕ) → reach (event c y ∷ es) ≡ r → r ≤ k.sides → r * k.per ≤ length p₀ → x'.plan ≡ plan_of k r ++ drop (r * k.per) p₀
      → ((s : ℕ) → 1 ≤ s → s ≤ x'.printed → last_text s (event c y ∷ es) ≡ Some (k.text s)) → Stands k b₀ p₀ x' (event c y ∷ es)
  goes_on r e within fits filled printed = record {
    counted = d.counts ∙ ap (λ z. after z y.answer) st.counted;
    within = subst (λ (z : ℕ). z ≤ k.sides) (sym e) within;
    fits = subst (λ (z : ℕ). z * k.per ≤ length p₀) (sym e) fits;
    filled = filled ∙ ap (λ z. plan_of k z ++ drop (z * k.per) p₀) (sym e);
    printed = printed;
    answered = (replied, st.answered);
    held = d.writes ∙ ap (λ z. splice z (start_of c) y.text) st.held;
    room = room ∙ st.room;
    list = list ∙ st.list;
  }

  -- the text of a side is still the last where nothing was printed
  unprinted : is_print y.answer ≡ false → (s : ℕ) → last_text s (event c y ∷ es) ≡ last_text s es
  unprinted h s = ap (λ t. cond (t && eqb (count es + 1) s) (Some y.text) (last_text s es)) h

  unplanned : is_print y.answer ≡ false → x'.plan ≡ plan_of k (reach es) ++ drop (reach es * k.per) p₀
  unplanned h = d.plans ∙ cond-false _ _ _ h ∙ st.filled

  -- no more sides stand printed than did before
  no_more : (m : ℕ) → after (count es) y.answer ≡ m → m ≤ n → reach (event c y ∷ es) ≡ reach es
  no_more m e le = max-left (reach es) (after (count es) y.answer) (omega (arith, count_reach es, st.counted))

  step_quiet : Quiet y.answer → Stands k b₀ p₀ x' (event c y ∷ es)
  step_quiet q =
      let same : x'.printed ≡ n = d.counts ∙ q.same n in
      goes_on (reach es) (no_more (count es) (q.same (count es)) (omega (arith, st.counted))) st.within st.fits (unplanned q.unprinted)
      (λ s low high. unprinted q.unprinted s ∙ st.printed s low (omega arith))

  step_pulled : Pulls n y → Stands k b₀ p₀ x' (event c y ∷ es)
  step_pulled q =
      let s = q.side in
      let low = q.low in
      let high = q.high in
      let none : is_print y.answer ≡ false = ap (λ (z : Reply). is_print z.answer) q.is in
      let back : x'.printed ≡ s - 1 = d.counts ∙ ap (λ (z : Reply). after n z.answer) q.is in
      let back₀ : after (count es) y.answer ≡ s - 1 = ap (λ (z : Reply). after (count es) z.answer) q.is in
      goes_on (reach es) (no_more (s - 1) back₀ (omega arith)) st.within st.fits (unplanned none)
      (λ t a e. unprinted none t ∙ st.printed t a (omega arith))

  step_printed : PrintsSide k (length x.plan) n y → Stands k b₀ p₀ x' (event c y ∷ es)
  step_printed q =
      let more = q.more in
      let lines = q.lines in
      let t = k.text (n + 1) in
      let yes : is_print y.answer ≡ true = ap (λ (z : Reply). is_print z.answer) q.is in
      let one : x'.printed ≡ n + 1 = d.counts ∙ ap (λ (z : Reply). after n z.answer) q.is in
      let one₀ : after (count es) y.answer ≡ n + 1 = ap (λ (z : Reply). after (count es) z.answer) q.is ∙ ap (λ z. z + 1) (sym st.counted) in
      let le : n ≤ reach es = omega (arith, count_reach es, st.counted) in
      goes_on (max (reach es) (n + 1)) (ap (max (reach es)) one₀)
      (omega (arith, st.within)) (largest (reach es) (n + 1) (λ z. z * k.per ≤ length p₀) st.fits (omega (arith, st.list)))
      (d.plans ∙ cond-true _ _ _ yes ∙ ap (λ z. splice z (n * k.per) (k.records (n + 1))) st.filled ∙ plan_printed k even n (reach es) p₀ le)
      (λ s low high.
      ap (λ z. cond (z && eqb (count es + 1) s) (Some y.text) (last_text s es)) yes
      ∙ ⊎_elim
      (λ (e : s ≡ n + 1). last_here (Some y.text) (last_text s es) (count es + 1) s (omega (arith, st.counted)) ∙ ap (λ (z : Reply). Some z.text) q.is ∙ ap (λ z. Some (k.text z)) (sym e))
      (λ (o : s ≡ n + 1 → ⊥). last_there (Some y.text) (last_text s es) (count es + 1) s (λ (x : count es + 1 ≡ s). o (omega (arith, st.counted))) ∙ st.printed s low (omega arith))
      (cases_eq s (n + 1)))
    where
      largest : (a b : ℕ) (P : ℕ → Type 0) → P a → P b → P (max a b)
      largest a b P x z = ⊎_elim (λ (h : a < b). subst P (sym (bigger a b h)) z) (λ (h : b ≤ a). subst P (sym (max-left a b h)) x) (cases_lt a b)
        where
          bigger : (a b : ℕ) → a < b → max a b ≡ b
          bigger a b h = omega arith

  pub stands_step : Stands k b₀ p₀ x' (event c y ∷ es)
  stands_step =
      let at : Kind k (length x.plan) n y = subst (Kind k (length x.plan) n) (sym d.replied) (kind k (length x.buffer) (length x.plan) n c) in
      ⊎_elim step_quiet (λ o. ⊎_elim step_pulled step_printed o) at
