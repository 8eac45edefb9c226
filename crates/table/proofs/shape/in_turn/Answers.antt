use Rattle.std.proofs.Common.{IsTrue, ◌↔◌, ◌≡◌, ℕ, ◌<◌, Bool, true, false, leb, List, length, get_or, sym, refl, arith, rules}
use Rattle.std.proofs.lemmas.Bool.{leb-true, leb-false, false≢true}
use Rattle.std.proofs.lemmas.Fn.{always_returns_same}
use Rattle.std.specs.List.{IsAllAdjacentAnswer}
use Rattle.table.specs.declared.part.Part.{Part}
use Rattle.table.specs.Rows.{no_part}
use Rattle.table.specs.Shape.{InTurn}
use Rattle.table.proofs.shape.in_turn.Goals as goal

-- where each part begins below its end, they come in turn if no neighbours overlap
turns :
    (parts : List Part) (apart : Bool) → ((k : ℕ) → k < length parts → (get_or parts k no_part).begin < (get_or parts k no_part).end) →
    IsAllAdjacentAnswer (λ x y b. b ≡ leb x.end y.begin) parts apart → IsTrue apart ↔ InTurn parts
turns parts true spans all = (λ _. record { spans = spans; ordered = λ k h. leb-true _ _ (sym (all k no_part h)) }, λ _. refl)
turns parts false spans (k, h, overlap) = (λ e. absurd (false≢true e), λ t. absurd (omega (arith, t.ordered k h, leb-false _ _ (sym (overlap no_part)))))

pub returns-then-all : goal.returns-then-all
returns-then-all c =
    turns c.args.parts.now c.is_sorted_by.result (search rules) (c.is_sorted_by.ensures.cases (λ x y. leb x.end y.begin) (always_returns_same _ _ _ (λ a r f k. search rules)))
