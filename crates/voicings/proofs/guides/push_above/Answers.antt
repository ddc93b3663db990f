-- `voicings::guides::push_above` meets its contract: guides, tensions and lead stand behind one another.
use Rattle.answer.proofs.Kit.{◌≡◌, refl, ap, ap₂, ◌∙◌, Bool, List, [], ◌∷◌, ◌++◌, append_assoc, ℕ, ◌≤◌, ◌<◌, arith, length, length-append, lt-ltb}
use Rattle.intervals.specs.Intervals.{set_of}
use Rattle.pool.specs.declared.pool.Tone.{Tone}
use Rattle.keys.specs.Choice.{chosen, placed}
use Rattle.voicings.specs.Guides.{holds_any, sixths, sevenths, guides, tensions, guide_once, tension_once, guide_keys, tension_keys}
use Rattle.voicings.specs.Voicing.{above_bass}
use Rattle.voicings.proofs.Few.{few_guides, few_tensions}
use Rattle.voicings.proofs.guides.push_above.Goals as goal
use Rattle.voicings.proofs.guides.push_above.Goals.{After-push_placed, After-push_placed-2}

-- what is placed, by what the code found, is the guides of a pool, and its tensions
module _ (lowest : ℕ) (pool : List Tone) (once : ℕ) (sixth seventh : Bool) (six : sixth ≡ holds_any sixths pool) (seven : seventh ≡ holds_any sevenths pool) where
  guide_keys_lem : (limit : ℕ) → once ≡ set_of (guide_once sixth seventh) → placed lowest limit 0 (chosen guides once pool) ≡ guide_keys lowest limit pool
  unfolding guide_keys
  guide_keys_lem limit e = ap (λ (x : ℕ). placed lowest limit 0 (chosen guides x pool)) (e ∙ ap₂ (λ (a b : Bool). set_of (guide_once a b)) six seven)

  tension_keys_lem : (lead count : ℕ) → count ≡ length pool → once ≡ set_of (tension_once sixth seventh count)
      → placed lowest lead lead (chosen tensions once pool) ≡ tension_keys lowest lead pool
  unfolding tension_keys
  tension_keys_lem lead count size e =
      ap (λ (x : ℕ). placed lowest lead lead (chosen tensions x pool))
      (e ∙ ap₂ (λ (a b : Bool). set_of (tension_once a b count)) six seven
      ∙ ap (λ (n : ℕ). set_of (tension_once (holds_any sixths pool) (holds_any sevenths pool) n)) size)

-- what stands there once the guides are placed, and what the tensions add
guided : (c : After-push_placed) → c.push_placed.new.keys ≡ c.args.keys.now ++ guide_keys c.args.span.lowest c.args.span.limit c.args.led.now.left.tones
unfolding guides set_of
guided c =
    let span = c.args.span in
    let found = c.of-present.ensures in
    c.push_placed.ensures
    ∙ ap (λ (x : List ℕ). c.args.keys.now ++ x)
    (guide_keys_lem span.lowest c.tones-tones.result.now _ _ _ found.sixth found.seventh span.limit c.guide_once.ensures ∙ ap (guide_keys span.lowest span.limit) c.tones-tones.ensures.tones)

tensed : (c : After-push_placed-2) → c.push_placed-2.new.keys ≡ c.push_placed.new.keys ++ tension_keys c.args.span.lowest c.args.led.now.key c.args.led.now.left.tones
unfolding tensions set_of
tensed c =
    let lowest = c.args.span.lowest in
    let lead = c.args.led.now.key in
    let found = c.of-present.ensures in
    c.push_placed-2.ensures
    ∙ ap (λ (x : List ℕ). c.push_placed.new.keys ++ x)
    (tension_keys_lem lowest c.tones-tones.result.now _ _ _ found.sixth found.seventh lead _ refl c.tension_once.ensures ∙ ap (tension_keys lowest lead) c.tones-tones.ensures.tones)

-- at most as many are placed as the pool has tones
few_guided : (c : After-push_placed) → length c.push_placed.new.keys ≤ 18
few_guided c =
    let span = c.args.span in
    let left = c.args.led.now.left.tones in
    omega (arith, ap length (guided c), length-append c.args.keys.now (guide_keys span.lowest span.limit left), few_guides span.lowest span.limit left, c.tones-tones.ensures.few, c.requires)

pub push_placed-requires-2-clause-room : goal.push_placed-requires-2-clause-room
push_placed-requires-2-clause-room c = let told = c.tones-tones.ensures in
    omega (arith, few_guided (goal.at.push_placed-requires-2-clause-room c).After-push_placed, told.few, ap length told.tones)

pub returns : goal.returns
unfolding above_bass
returns c =
    let at = goal.at.returns c in
    let lowest = c.args.span.lowest in
    let lead = c.args.led.now.key in
    let left = c.args.led.now.left.tones in
    let guides = guide_keys lowest c.args.span.limit left in
    let tensions = tension_keys lowest lead left in
    let g = guided at.After-push_placed in
    let t = tensed at.After-push_placed-2 in
    let fits : length c.push_placed-2.new.keys < 35 = omega (arith, few_guided at.After-push_placed, ap length t, length-append c.push_placed.new.keys tensions, few_tensions lowest lead left, c.tones-tones.ensures.few) in
    let pushed : c.push_byte.new.self ≡ c.push_placed-2.new.keys ++ (lead ∷ []) = rw (lt-ltb _ _ fits) at c.push_byte.ensures in
    pushed
    ∙ ap (λ (x : List ℕ). x ++ (lead ∷ [])) (t ∙ ap (λ (x : List ℕ). x ++ tensions) g)
    ∙ ap (λ (x : List ℕ). x ++ (lead ∷ [])) (append_assoc c.args.keys.now guides tensions)
    ∙ append_assoc c.args.keys.now (guides ++ tensions) (lead ∷ [])
