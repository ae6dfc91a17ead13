-- A call that is lent a state of fragments, with some parameters after it, and two functions that take the state by value and the same
-- parameters: the call copies the state out, puts back what the first function makes of it, and answers what the second says of it. That
-- such a call keeps its promise is a walk of its MIR in the program logic, by hand. It is one walk for any two such functions, whatever
-- the parameters after the state are; only how the call takes them in and lets them go is walked for each kind: some bytes, and some
-- bytes with a date. All that it knows of the two functions is that each meets its contract. The borrow checker proves the two calls of
-- src/fragments.rt by itself, so no proof cites this walk. Assumes nothing.
use mathlib.Core.Path.{◌≡◌, refl}
use Prim.Native.Nat.{ℕ, zero, suc}
use mathlib.Core.List.{List, [], ◌∷◌, ◌++◌}
use lib.Dec.{T as IsTrue}
use lib.ListN.{length}
use seplogic.Ra.Ura.{Ura}
use base.Fraction.{full_share}
use mir.Syntax.{w8, Ty, Callee, Fn, Local, local, value_local, ty_ref, named, mut, imm, place, deref, Opd as Operand, copy, rv_opd, Body as Code, assign, call, seq, return}
use mir.Val.{Val, vptr, has_ty, WT}
use base.Logic.{SProp, ent, sep, emp, via, emp∗, mono_l, comm∗, fst∗, snd∗, ex_e, id⊢}
use base.Fml.{GName, Lft, Share, Fml, ftrue, fsep, flft, fobs, fbor, fat, froom}
use prog.Wp.{Env, spot_of, WpFn, Tables}
use types.Logic.{Logic, sem}
use contract.Lifetimes.{Lfts, Within}
use contract.Monad.{Fun, fact, fact_i}
use types.Kit.{Go, Item, Step, Sq, step, prop, runs, allocs, params', frees, at_ret, nth, ‵, raw, ◌⊛◌, ⋆, some, later, ◌$◌, ◌∵◌, !, qed, move, drop, group, use1, use3, split, join, pick, fsplit, fsplit3, fjoin, fjoin3, feq_i, frame, await, done}
use types.Run.{Opds, look, look_raw, init, store_raw, forget, stop, hop, from, load, of_opd, and_then, no_more, assigns, land, returns, enter, alloc1, alloc0, params1, pass1, pass0, free1, free0}
use types.SemTy.{Body}
use sound.WpLaws.{fm_of, WpFn-mono}
use denote.RattleType.{RattleType, Denots, Valss, owns, flat}
use denote.Laws.{Is, Ises, Are, Spells, valss, Tellss, shows}
use denote.Memory.{mem, pointee}
use denote.Builtin.{u8, RefMut, SliceRef}
use denote.Plain.{uint_row_laws}
use denote.Ref.{MutRef, mut_vals, mut_Tells}
use denote.Slice.{slice_ty, shr_slice_vals, shr_slice_Tells, shr_slice_Lawful, shr_slice_copy}
use denote.Signature.{Slot, plain, types_at}
use denote.Steps.{opens, closes, owned, peeks, heard}
use denote.Struct.Steps.{spelt}
use denote.Struct.Struct.{Copies, twices}
use denote.Struct.Laws as LL
use denote.Triple.End.{all}
use denote.Triple.Spec.{Meets, triple_of}
use denote.Triple.Statement.{Contract, Triple}
use denote.Triple.Call.{calls_at}
use denote.Triple.Clauses.{Ended, Clauses, Lasts, closing, ensured, lasts}
use denote.Triple.Walked.{Stays, Fit, Ending, stay_none, stay_ref, stay_none_slice, walk_of, AllGo, Goes-none, Goes-ref, Goes-none_slice, ends_at, walked, walk_Meets}
use denote.Exit.{yes}
use Rattle.calendar.specs.declared.Date.{Date}
use Rattle.calendar.specs.contracts.Date as D
use Rattle.calendar.proofs.Date.TheLaws as D'
use Rattle.units_fragments.specs.declared.UnitsState.{UnitsState}
use Rattle.units_fragments.specs.contracts.UnitsState as T
use Rattle.units_fragments.proofs.UnitsState.TheLaws as T'

abbrev R : RattleType
R = T.the_row

-- ---- the call and its two functions: what is declared of them

-- the parameters after the state: how they are declared at the lifetime j of n, what they say, and how the call's code holds them
pub record After : Type 2 where
  pub slots : (n j : ℕ) → Within n j → List (Slot n)
  pub Said : Type 0
  pub said : (n j : ℕ) (ok : Within n j) (κs : Lfts n) → Denots (types_at (slots n j ok) κs) → Said
  pub held : List Local

-- as a function takes them, which has one lifetime, and as the call does, which has two
abbrev taken : After → List (Slot 1)
taken B = B.slots 1 0 tt

abbrev lent : After → List (Slot 2)
lent B = B.slots 2 1 tt

-- a function takes a state by value and what is after it, and gives an X
abbrev pub takes_state : After → RattleType → Ended
takes_state B X = record {
  signature = record { lifetimes = 1; outlives = []; params = plain (λ _. R) ∷ taken B; result = plain (λ _. X) };
  kept = (yes, all yes (taken B));
}

-- the call is lent the state
abbrev pub lent_state : After → RattleType → Ended
lent_state B X = record {
  signature = record { lifetimes = 2; outlives = []; params = RefMut 0 tt R tt ∷ lent B; result = plain (λ _. X) };
  kept = (yes, all yes (lent B));
}

-- its code, over the names of the functions: the old state is in the local i and the new one in the next, and xs is passed beside it
abbrev body_over : ℕ → List Operand → Callee → Callee → Code
body_over i xs #next #answer =
    seq (assign (place i []) (rv_opd (copy (place 1 (deref T'.mir ∷ [])))))
    (seq (call #next (copy (place i []) ∷ xs) (place (suc i) []))
    (seq (assign (place 1 (deref T'.mir ∷ [])) (rv_opd (copy (place (suc i) []))))
    (seq (call #answer (copy (place i []) ∷ xs) (place 0 [])) return)))

abbrev copied : ℕ → List Local → List Operand
copied i [] = []
copied i (l ∷ ls) = copy (place i []) ∷ copied (suc i) ls

-- τ is the type of what it answers
abbrev pub code_over : After → Ty → Callee → Callee → Fn
code_over B τ #next #answer = record {
  lifetimes = 2;
  outlives = [];
  ty_params = [];
  givens = 0;
  params = suc (length B.held);
  locals = local τ value_local ∷ local (ty_ref (named 0) mut (pointee R.written)) value_local ∷ (B.held ++ local T'.mir value_local ∷ local T'.mir value_local ∷ []);
  body = body_over (suc (suc (length B.held))) (copied 2 B.held) #next #answer;
}

module _ {M : Type 1} (𝓤 : Ura M) (B : After) where
  -- a function gives d of the state and of what is said after it
  abbrev pub gives : (X : RattleType) → (UnitsState → B.Said → X.Denot) → Clauses 𝓤 (takes_state B X)
  gives X d κs a = record { ghost = Unit {0}; requires = λ _. emp 𝓤; ensures = λ _ r _. fact 𝓤 (r ≡ d a.0 (B.said 1 0 tt κs a.1)) }

  -- the call answers so, and leaves the state so
  abbrev pub answers : (X : RattleType) → (UnitsState → B.Said → X.Denot) → (UnitsState → B.Said → UnitsState) → Clauses 𝓤 (lent_state B X)
  answers X answer next κs a = record {
    ghost = Unit {0};
    requires = λ _. emp 𝓤;
    ensures = λ _ r e. sep 𝓤 (fact 𝓤 (r ≡ answer a.0.now (B.said 2 1 tt κs a.1))) (fact 𝓤 (e.0.now ≡ next a.0.now (B.said 2 1 tt κs a.1)));
  }

  abbrev pub Called : (𝓛 : Logic 𝓤) (X : RattleType) → (UnitsState → B.Said → X.Denot) → Contract 𝓤
  Called 𝓛 X d = triple_of 𝓛 (takes_state B X).signature (closing 𝓛 (takes_state B X) (gives X d))

-- a goal P ∗ (⌜φ⌝ ∗ ⌜ψ⌝), as two `ensures` state it: both are shown, and P is left
say_both : {M : Type 1} {𝓤 : Ura M} {𝓛 : Logic 𝓤} {K : Type 0} {Γ : List (Item 𝓤)} → K → {φ ψ : Type 0} {P : SProp 𝓤} → φ → ψ → Step K 𝓛 Γ (prop P) Γ (prop (sep 𝓤 P (sep 𝓤 (fact 𝓤 φ) (fact 𝓤 ψ))))
say_both {𝓤 = 𝓤} t {φ} {ψ} {P} x y =
    step (λ s. record {
      prf = via 𝓤 P s.prf (via 𝓤 (sep 𝓤 (emp 𝓤) P) (emp∗ 𝓤 P) (via 𝓤 (sep 𝓤 (sep 𝓤 (fact 𝓤 φ) (fact 𝓤 ψ)) P)
          (mono_l 𝓤 P (via 𝓤 (fact 𝓤 ψ) (fact_i 𝓤 ψ (emp 𝓤) y) (via 𝓤 (sep 𝓤 (emp 𝓤) (fact 𝓤 ψ)) (emp∗ 𝓤 (fact 𝓤 ψ)) (mono_l 𝓤 (fact 𝓤 ψ) (fact_i 𝓤 φ (emp 𝓤) x)))))
          (comm∗ 𝓤 (sep 𝓤 (fact 𝓤 φ) (fact 𝓤 ψ)) P)));
    })

-- ---- the walk

-- k + m, which computes where m is not known
abbrev past : ℕ → ℕ → ℕ
past zero m = m
past (suc k) m = suc (past k m)

module _ {M : Type 1} {𝓤 : Ura M} (𝓛 : Logic 𝓤) where
  -- a machine value of the state is of the state's type
  open 𝓛 use {H}

  typed_state : (r : UnitsState) (u : Val) → Is R r (u ∷ []) → IsTrue (has_ty T'.mir u) × WT u
  typed_state r u is = ((LL.lawful T.the_type T'.the_laws 𝓛).typed r _ is).0

  module _ (B : After) (X : RattleType) (answer : UnitsState → B.Said → X.Denot) (next : UnitsState → B.Said → UnitsState)
      -- κ and q are of the state, κ' and q' of what is after it; the state lies at b, o and is h, and what is after it is a, at vss
      (κ κ' : Lft) (q q' : Share) (b o : ℕ) (γ : GName) (h : UnitsState) (a : Denots (types_at (taken B) (κ', tt))) (vss : Valss (types_at (taken B) (κ', tt))) where
    abbrev Rs : List RattleType
    Rs = types_at (taken B) (κ', tt)

    abbrev p : B.Said
    p = B.said 1 0 tt (κ', tt) a

    -- the machine value of the state
    abbrev mach : Val
    mach = LL.tuple_val T.the_type T'.the_laws ((T.the_type).to h)

    abbrev Tok : Item 𝓤
    Tok = ‵ (flft κ' q') ⊛ ‵ ftrue

    abbrev Own : Fml
    Own = owns Rs a vss

    abbrev Bor : Fml
    Bor = fbor κ (Body (mem R) b o γ)

    -- a call of a function: what it is passed, what it asks, and what is known of its result
    abbrev to : (Y : RattleType) (d : UnitsState → B.Said → Y.Denot) → (Called 𝓤 B 𝓛 Y d).Ghost
    to Y d = (((κ', tt), (q', tt), tt, (h, a), (mach ∷ [], vss)), tt)

    goes : (Y : RattleType) (d : UnitsState → B.Said → Y.Denot) → ent 𝓤 (⋆ 𝓛 (Tok ∷ ‵ (R.own_val h (mach ∷ [])) ∷ ‵ Own ∷ [])) ((Called 𝓤 B 𝓛 Y d).pre (to Y d))
    goes Y d = qed 𝓛 (Tok ∷ ‵ (R.own_val h (mach ∷ [])) ∷ ‵ Own ∷ []) ∵ move ! (1 ∷ 2 ∷ []) $ fjoin ! $ move ! (1 ∷ 0 ∷ []) $ join ! $ frame ! $ done !

    said : (Y : RattleType) (d : UnitsState → B.Said → Y.Denot) (r : Y.Denot) → ent 𝓤 (ensured 𝓛 (takes_state B Y) (gives 𝓤 B Y d) (κ', tt) (h, a) tt r) (fact 𝓤 (r ≡ d h p))
    said Y d r = ex_e 𝓤 _ (λ ws. snd∗ 𝓤 (sem 𝓛 (lasts (takes_state B Y) (κ', tt) (h, a) ws)) (fact 𝓤 (r ≡ d h p)))

    -- what the call ends with: the state is r, and w is the machine value of the answer n
    abbrev End : UnitsState → X.Denot → Val → SProp 𝓤
    End r n w =
        sep 𝓤 (sep 𝓤 (sep 𝓤 (sem 𝓛 (flft κ q)) (sep 𝓤 (sem 𝓛 (flft κ' q')) (sem 𝓛 ftrue))) (sep 𝓤 (sem 𝓛 (fsep ((MutRef (named 0) κ R).own_val (record { ref_ptr = (b, o); ghost_name = γ; now = r }) (vptr b o ∷ [])) Own)) (sem 𝓛 (X.own_val n (w ∷ [])))))
        (sep 𝓤 (fact 𝓤 (n ≡ answer h p)) (fact 𝓤 (r ≡ next h p)))

    ended : (r : UnitsState) (n : X.Denot) (w : Val) → r ≡ next h p → n ≡ answer h p
        → ent 𝓤 (⋆ 𝓛 (‵ (fobs γ (R.coded.code r)) ∷ ‵ Bor ∷ ‵ (flft κ q) ∷ Tok ∷ ‵ Own ∷ ‵ (X.own_val n (w ∷ [])) ∷ [])) (End r n w)
    ended r n w e₁ e₂ =
        qed 𝓛 (‵ (fobs γ (R.coded.code r)) ∷ ‵ Bor ∷ ‵ (flft κ q) ∷ Tok ∷ ‵ Own ∷ ‵ (X.own_val n (w ∷ [])) ∷ []) ∵ say_both ! e₂ e₁ $
        move ! (2 ∷ 3 ∷ []) $ join ! $ frame ! $ feq_i ! (List Val) (vptr b o ∷ []) (vptr b o ∷ []) refl $ fjoin3 ! $ fjoin ! $ frame ! $ done !

    module _ (#next #answer : Callee) (𝓣 : Tables 𝓤 H) (known_next : Triple 𝓤 (𝓣.C #next) (Called 𝓤 B 𝓛 R next)) (known_answer : Triple 𝓤 (𝓣.C #answer) (Called 𝓤 B 𝓛 X answer)) (copies : Copies 𝓛 Rs)
        -- E are the locals, and Δ is what there is beside what the walk names; xs, read from Δ, is what is after the state
        (E : Env 𝓤 H) (i : ℕ) (xs : List Operand) (Δ : List (Item 𝓤)) (Post : Val → SProp 𝓤) where
      abbrev cell : ℕ → Val → Item 𝓤
      cell k u = ‵ (fat full_share (spot_of 𝓤 H E k).0 (spot_of 𝓤 H E k).1 0 u)

      abbrev room : ℕ → Item 𝓤
      room k = ‵ (froom (spot_of 𝓤 H E k).0 (spot_of 𝓤 H E k).1 0)

      -- the local k is of Y's type
      abbrev Fits : RattleType → ℕ → Type 0
      Fits Y k = (y : Y.Denot) (u : Val) → Is Y y (u ∷ []) → IsTrue (has_ty (spot_of 𝓤 H E k).0 u) × WT u

      -- the locals fit; xs is read, whatever k entries stand before Δ; what the walk ends with is enough; and the locals are freed
      walk : Fits R i → Fits R (suc i) → Fits X 0
          → ((Γ : List (Item 𝓤)) (k : ℕ) → ((m : ℕ) → nth 𝓛 (past k m) Γ ≡ nth 𝓛 m Δ) → Opds (Go {0}) 𝓛 Γ E xs (flat Rs vss))
          → ((r : UnitsState) (n : X.Denot) (w : Val) → ent 𝓤 (End r n w) (Post w))
          → ((P : SProp 𝓤) → Sq 𝓛 (raw P ∷ room i ∷ room (suc i) ∷ room 1 ∷ room 0 ∷ Δ) (frees E (prop P)))
          → Sq 𝓛 (‵ (fobs γ (R.coded.code h)) ∷ ‵ Bor ∷ ‵ (flft κ q) ∷ Tok ∷ ‵ Own ∷ room i ∷ room (suc i) ∷ cell 1 (vptr b o) ∷ room 0 ∷ Δ) (runs 𝓣.C 𝓣.Λ E (body_over i xs #next #answer) (at_ret E Post))
      walk old new result others ends leave =
          -- the borrow is opened, and the struct's machine value is spelled
          opens ! tt R {h = h} b o (λ vs. spelt ! R (Is R) (shows 𝓛 R) (LL.vals T.the_type T'.the_laws) (LL.tells T.the_type T'.the_laws) full_share h vs b o $
          move ! (1 ∷ []) $ peeks ! R (Is R) (shows 𝓛 R) h (mach ∷ []) (λ was. move ! (1 ∷ 0 ∷ []) $
          -- [the struct's cell; what it owns; the open borrow; obs; auth; Tok; Own; room i; room i + 1; cell 1; room 0; Δ]
          assigns ! (of_opd ! (load ! (from ! (hop ! (look ! 9 refl) (stop !))) (look_raw ! 0 refl))) (from ! (stop !)) (init ! 7 refl (old h _ was)) $
          -- Own is had twice, and one goes to the first function beside the struct and the token
          move ! (6 ∷ []) $ use1 𝓛 (‵ Own ⊛ ‵ Own) (twices 𝓛 Rs copies a vss) $ split ! $
          -- [Own; Own; the struct's cell; what it owns; the open borrow; obs; auth; Tok; cell i; …]
          move ! (7 ∷ 3 ∷ 0 ∷ []) $ use3 𝓛 (raw ((Called 𝓤 B 𝓛 R next).pre (to R next))) (goes R next) $
          -- [what it asks; Own; the struct's cell; the open borrow; obs; auth; cell i; room i + 1; cell 1; room 0; Δ]
          calls_at ! (fm_of 𝓤 H 𝓛.laws 𝓣) (Called 𝓤 B 𝓛 R next) known_next (to R next) (and_then ! (load ! (from ! (stop !)) (look ! 6 refl)) (others _ 10 (λ m. refl))) (λ u.
          use1 𝓛 (later (some (λ (r : UnitsState). (Tok ⊛ ‵ (R.own_val r (u ∷ []))) ⊛ raw (ensured 𝓛 (takes_state B R) (gives 𝓤 B R next) (κ', tt) (h, a) tt r)))) (id⊢ 𝓤 _) $ await ! tt $ pick ! (λ r.
          split ! $ move ! (1 ∷ []) $ use1 𝓛 (raw (fact 𝓤 (r ≡ next h p))) (said R next r) $ heard ! (r ≡ next h p) (λ e₁. split ! $ move ! (1 ∷ []) $
          -- [what the result owns; Tok; Own; the struct's cell; the open borrow; obs; auth; cell i; room i + 1; cell 1; room 0; Δ]
          peeks ! R (Is R) (shows 𝓛 R) r (u ∷ []) (λ is.
          land ! (from ! (stop !)) (init ! 8 refl (new r _ is)) $
          -- the result is stored whole, and the borrow is closed at it
          assigns ! (of_opd ! (load ! (from ! (stop !)) (look ! 8 refl))) (from ! (hop ! (look ! 9 refl) (stop !))) (store_raw ! 3 refl (typed_state r _ is)) $
          move ! (3 ∷ 0 ∷ 4 ∷ 5 ∷ 6 ∷ []) $ closes ! tt R r (u ∷ []) b o $
          -- Own is had twice again, and the struct is owned anew from what is known of it; so the second function is passed what the first was
          -- [obs; the borrow; its token; Tok; Own; cell i; cell i + 1; cell 1; room 0; Δ]
          move ! (4 ∷ []) $ use1 𝓛 (‵ Own ⊛ ‵ Own) (twices 𝓛 Rs copies a vss) $ split ! $
          owned ! R (Is R) (LL.makes T.the_type T'.the_plain 𝓛) h (mach ∷ []) was $ move ! (6 ∷ 0 ∷ 1 ∷ []) $ use3 𝓛 (raw ((Called 𝓤 B 𝓛 X answer).pre (to X answer))) (goes X answer) $
          -- [what it asks; Own; obs; the borrow; its token; cell i; cell i + 1; cell 1; room 0; Δ]
          calls_at ! (fm_of 𝓤 H 𝓛.laws 𝓣) (Called 𝓤 B 𝓛 X answer) known_answer (to X answer) (and_then ! (load ! (from ! (stop !)) (look ! 5 refl)) (others _ 9 (λ m. refl))) (λ w.
          use1 𝓛 (later (some (λ (n : X.Denot). (Tok ⊛ ‵ (X.own_val n (w ∷ []))) ⊛ raw (ensured 𝓛 (takes_state B X) (gives 𝓤 B X answer) (κ', tt) (h, a) tt n)))) (id⊢ 𝓤 _) $ await ! tt $ pick ! (λ n.
          split ! $ move ! (1 ∷ []) $ use1 𝓛 (raw (fact 𝓤 (n ≡ answer h p))) (said X answer n) $ heard ! (n ≡ answer h p) (λ e₂. split ! $ move ! (1 ∷ []) $
          -- [what the answer owns; Tok; Own; obs; the borrow; its token; cell i; cell i + 1; cell 1; room 0; Δ]
          peeks ! X (Is X) (shows 𝓛 X) n (w ∷ []) (λ is'.
          land ! (from ! (stop !)) (init ! 9 refl (result n w is')) $
          returns ! (look ! 9 refl) $ forget ! 6 refl $ forget ! 7 refl $ forget ! 8 refl $ forget ! 9 refl $
          move ! (3 ∷ 4 ∷ 5 ∷ 1 ∷ 2 ∷ 0 ∷ []) $ group ! 6 $ use1 𝓛 (raw (Post w)) (via 𝓤 _ (ended r n w e₁ e₂) (ends r n w)) $ leave (Post w)))))))))))

-- ---- the call meets its contract, from its walk

module _ {M : Type 1} {𝓤 : Ura M} (𝓛 : Logic 𝓤) (B : After) (X : RattleType) (τ : Ty)
    (answer : UnitsState → B.Said → X.Denot) (next : UnitsState → B.Said → UnitsState) (#next #answer : Callee) (𝓣 : Tables 𝓤 𝓛.H) (stay : Stays (lent B) (all yes (lent B))) where
  open 𝓛 use {H}

  abbrev stayed : Stays (lent_state B X).signature.params (lent_state B X).kept
  stayed = (stay_ref (0 ∷ []) tt (plain (λ _. R)), stay)

  abbrev walked_so : Contract 𝓤
  walked_so = walk_of 𝓛 (lent_state B X) stayed (answers 𝓤 B X answer next)

  abbrev run : Fun 𝓤
  run = WpFn 𝓤 H 𝓣.C 𝓣.Λ (code_over B τ #next #answer)

  module _ (κ κ' : Lft) (q q' : Share) (b o : ℕ) (γ : GName) (h : UnitsState) (a : Denots (types_at (lent B) (κ, (κ', tt)))) (vss : Valss (types_at (lent B) (κ, (κ', tt)))) where
    -- what it is passed, and what it owns
    abbrev passed : walked_so.Ghost
    passed = (((κ, (κ', tt)), (q, (q', tt)), tt, (record { ref_ptr = (b, o); ghost_name = γ; now = h }, a), (vptr b o ∷ [], vss)), tt)

    abbrev entry : List (Item 𝓤)
    entry = (‵ (flft κ q) ⊛ ‵ (flft κ' q') ⊛ ‵ ftrue) ∷ ‵ (owns (MutRef (named 0) κ R ∷ types_at (lent B) (κ, (κ', tt))) passed.0.3 passed.0.4) ∷ []

    -- it is walked from where its locals are allocated, given how it ends
    abbrev Walked : Type 1
    Walked =
        ((ws : Lasts (lent_state B X) (κ, (κ', tt)) passed.0.3) → Fit (lent_state B X) stayed (κ, (κ', tt)) passed.0.3 ws → (n : X.Denot) (w : Val) → ent 𝓤 (Ending 𝓛 (lent_state B X) stayed (answers 𝓤 B X answer next) passed w n ws) (walked_so.post passed w))
        → Sq 𝓛 entry (allocs (code_over B τ #next #answer).locals (λ E. params' E (walked_so.args passed) (runs 𝓣.C 𝓣.Λ E (code_over B τ #next #answer).body (at_ret E (walked_so.post passed)))))

    enters : Walked → ent 𝓤 (⋆ 𝓛 entry) (run (walked_so.args passed) (walked_so.post passed))
    enters s = qed 𝓛 entry ∵ enter ! 𝓣.C 𝓣.Λ (code_over B τ #next #answer) (walked_so.args passed) (walked_so.post passed) $ s (λ ws fits n w. ends_at 𝓛 (lent_state B X) stayed (answers 𝓤 B X answer next) passed w n ws fits)

  meets : AllGo 𝓛 2 (lent B) (all yes (lent B)) stay → (sp : (κs : Lfts 2) → Spells (types_at (lent B) κs)) → ((κs : Lfts 2) → Tellss (types_at (lent B) κs) (Ises (types_at (lent B) κs)) (sp κs))
      → ((κ κ' : Lft) (q q' : Share) (b o : ℕ) (γ : GName) (h : UnitsState) (a : Denots (types_at (lent B) (κ, (κ', tt)))) → let vss = valss (types_at (lent B) (κ, (κ', tt))) (sp (κ, (κ', tt))) a in
      Are (types_at (lent B) (κ, (κ', tt))) (Ises (types_at (lent B) (κ, (κ', tt)))) a vss → Walked κ κ' q q' b o γ h a vss)
      → Meets 𝓛 (lent_state B X).signature run (closing 𝓛 (lent_state B X) (answers 𝓤 B X answer next))
  meets go sp tl walks =
      walk_Meets 𝓛 (lent_state B X) stayed (Goes-ref 𝓛 2 0 tt (plain (λ _. R)), go) (answers 𝓤 B X answer next) run (WpFn-mono 𝓤 H 𝓛.laws 𝓣 (code_over B τ #next #answer))
      (walked 𝓛 (lent_state B X) stayed (answers 𝓤 B X answer next) run (λ κs. (mut_vals, sp κs)) (λ κs. (mut_Tells (named 0) κs.0 R, tl κs))
      (λ κs qs bounds a _ are. via 𝓤 _ (fst∗ 𝓤 _ (emp 𝓤)) (enters κs.0 κs.1.0 qs.0 qs.1.0 a.0.ref_ptr.0 a.0.ref_ptr.1 a.0.ghost_name a.0.now a.1 _ (walks κs.0 κs.1.0 qs.0 qs.1.0 a.0.ref_ptr.0 a.0.ref_ptr.1 a.0.ghost_name a.0.now a.1 are.1))))

-- ---- after the state, some bytes

abbrev pub bytes : After
bytes = record {
  slots = λ n j ok. SliceRef j ok u8 tt ∷ [];
  Said = List ℕ;
  said = λ n j ok κs a. a.0.now;
  held = local (slice_ty (ty_ref (named 1) imm (pointee u8.written))) value_local ∷ [];
}

module _ {M : Type 1} {𝓤 : Ura M} (𝓛 : Logic 𝓤) (X : RattleType) (τ : Ty)
    (typed : (n : X.Denot) (w : Val) → Is X n (w ∷ []) → IsTrue (has_ty τ w) × WT w)
    (answer : UnitsState → List ℕ → X.Denot) (next : UnitsState → List ℕ → UnitsState) (#next #answer : Callee) (𝓣 : Tables 𝓤 𝓛.H)
    (known_next : Triple 𝓤 (𝓣.C #next) (Called 𝓤 bytes 𝓛 R next)) (known_answer : Triple 𝓤 (𝓣.C #answer) (Called 𝓤 bytes 𝓛 X answer)) where
  open 𝓛 use {H}

  pub over_bytes : Meets 𝓛 (lent_state bytes X).signature (WpFn 𝓤 H 𝓣.C 𝓣.Λ (code_over bytes τ #next #answer)) (closing 𝓛 (lent_state bytes X) (answers 𝓤 bytes X answer next))
  over_bytes =
      meets 𝓛 bytes X τ answer next #next #answer 𝓣 (stay_none_slice (1 ∷ []) tt (plain (λ _. u8)) yes, tt) (Goes-none_slice 𝓛 2 (1 ∷ []) tt (plain (λ _. u8)) yes, tt)
      (λ κs. (shr_slice_vals, tt)) (λ κs. (shr_slice_Tells (named 1) κs.1.0 u8, tt)) (λ κ κ' q q' b o γ h a are ends.
      alloc1 ! (λ l₀. alloc1 ! (λ l₁. alloc1 ! (λ l₂. alloc1 ! (λ l₃. alloc1 ! (λ l₄. alloc0 ! $ params1 ! $ pass1 ! (init ! 6 refl (tt, tt)) $ pass1 ! (init ! 4 refl ((shr_slice_Lawful 𝓛 (named 1) κ' u8).typed a.0 _ are.0).0) $ pass0 ! $
      move ! (11 ∷ []) $ fsplit ! $ fsplit3 ! $ drop ! $ move ! (13 ∷ []) $ split ! $ move ! (2 ∷ 3 ∷ 0 ∷ 1 ∷ 4 ∷ 7 ∷ 5 ∷ 11 ∷ 13 ∷ []) $
      walk 𝓛 bytes X answer next κ κ' q q' b o γ h a _ #next #answer 𝓣 known_next known_answer (shr_slice_copy 𝓛 (named 0) κ' u8 (uint_row_laws w8), tt) _ 3 _ _ _
      (typed_state 𝓛) (typed_state 𝓛) typed
      (λ Γ k e. and_then ! (load ! (from ! (stop !)) (look ! (past k 2) (e 2))) (no_more !)) (λ r. ends (r, (tt, tt)) (tt, (tt, tt)))
      -- [P; room 3; room 4; room 1; room 0; then _4; _3; the slice; _2; _1; _0 as they die]
      (λ P. forget ! 7 refl $ move ! (4 ∷ 10 ∷ []) $ free1 ! $ move ! (3 ∷ 8 ∷ []) $ free1 ! $ move ! (5 ∷ 6 ∷ []) $ free1 ! $ move ! (1 ∷ 4 ∷ []) $ free1 ! $ move ! (1 ∷ 2 ∷ []) $ free1 ! $ free0 ! $ done !)))))))

-- ---- after the state, some bytes and a date

abbrev pub bytes_and_date : After
bytes_and_date = record {
  slots = λ n j ok. SliceRef j ok u8 tt ∷ plain (λ _. D.the_row) ∷ [];
  Said = List ℕ × Date;
  said = λ n j ok κs a. (a.0.now, a.1.0);
  held = bytes.held ++ local D'.mir value_local ∷ [];
}

module _ {M : Type 1} {𝓤 : Ura M} (𝓛 : Logic 𝓤) (X : RattleType) (τ : Ty)
    (typed : (n : X.Denot) (w : Val) → Is X n (w ∷ []) → IsTrue (has_ty τ w) × WT w)
    (answer : UnitsState → List ℕ × Date → X.Denot) (next : UnitsState → List ℕ × Date → UnitsState) (#next #answer : Callee) (𝓣 : Tables 𝓤 𝓛.H)
    (known_next : Triple 𝓤 (𝓣.C #next) (Called 𝓤 bytes_and_date 𝓛 R next)) (known_answer : Triple 𝓤 (𝓣.C #answer) (Called 𝓤 bytes_and_date 𝓛 X answer)) where
  open 𝓛 use {H}

  pub over_bytes_and_date : Meets 𝓛 (lent_state bytes_and_date X).signature (WpFn 𝓤 H 𝓣.C 𝓣.Λ (code_over bytes_and_date τ #next #answer)) (closing 𝓛 (lent_state bytes_and_date X) (answers 𝓤 bytes_and_date X answer next))
  over_bytes_and_date =
      meets 𝓛 bytes_and_date X τ answer next #next #answer 𝓣 (stay_none_slice (1 ∷ []) tt (plain (λ _. u8)) yes, (stay_none (λ _. D.the_row) yes, tt))
      (Goes-none_slice 𝓛 2 (1 ∷ []) tt (plain (λ _. u8)) yes, (Goes-none 𝓛 2 (λ _. D.the_row) yes (λ κs x f. refl), tt))
      (λ κs. (shr_slice_vals, (LL.vals D.the_type D'.the_laws, tt))) (λ κs. (shr_slice_Tells (named 1) κs.1.0 u8, (LL.tells D.the_type D'.the_laws, tt))) (λ κ κ' q q' b o γ h a are ends.
      alloc1 ! (λ l₀. alloc1 ! (λ l₁. alloc1 ! (λ l₂. alloc1 ! (λ l₃. alloc1 ! (λ l₄. alloc1 ! (λ l₅. alloc0 ! $ params1 ! $ pass1 ! (init ! 8 refl (tt, tt)) $ pass1 ! (init ! 6 refl ((shr_slice_Lawful 𝓛 (named 1) κ' u8).typed a.0 _ are.0).0) $
      pass1 ! (init ! 4 refl ((LL.lawful D.the_type D'.the_laws 𝓛).typed a.1.0 _ are.1.0).0) $ pass0 ! $
      move ! (13 ∷ []) $ fsplit ! $ fsplit3 ! $ drop ! $ move ! (15 ∷ []) $ split ! $ move ! (2 ∷ 3 ∷ 0 ∷ 1 ∷ 4 ∷ 7 ∷ 5 ∷ 13 ∷ 15 ∷ []) $
      walk 𝓛 bytes_and_date X answer next κ κ' q q' b o γ h a _ #next #answer 𝓣 known_next known_answer (shr_slice_copy 𝓛 (named 0) κ' u8 (uint_row_laws w8), (LL.copy D.the_type D'.the_copy 𝓛, tt)) _ 4 _ _ _
      (typed_state 𝓛) (typed_state 𝓛) typed
      (λ Γ k e. and_then ! (load ! (from ! (stop !)) (look ! (past k 4) (e 4))) (and_then ! (load ! (from ! (stop !)) (look ! (past k 2) (e 2))) (no_more !))) (λ r. ends (r, (tt, (tt, tt))) (tt, (tt, (tt, tt))))
      -- [P; room 4; room 5; room 1; room 0; then _5; _4; the date; _3; the slice; _2; _1; _0 as they die]
      (λ P. forget ! 7 refl $ forget ! 9 refl $ move ! (4 ∷ 12 ∷ []) $ free1 ! $ move ! (3 ∷ 10 ∷ []) $ free1 ! $ move ! (7 ∷ 8 ∷ []) $ free1 ! $ move ! (5 ∷ 6 ∷ []) $ free1 ! $ move ! (1 ∷ 4 ∷ []) $ free1 ! $ move ! (1 ∷ 2 ∷ []) $ free1 ! $ free0 ! $ done !))))))))
