use Rattle.std.specs.Prelude.{ℕ, List, ◌++◌, Some, None, codes, decimal, Option}
use Rattle.std.specs.Option.{option_map}
use Rattle.rules.specs.declared.label.Label.{Label}
use Rattle.report.specs.declared.verdict.Verdict.{Verdict}
use Rattle.report.specs.declared.verdict.Verdict.TheVariants.{Accepted, Refused}
use Rattle.report.specs.Refusals.{letter}

-- a number's digits, or a dash where there is none
abbrev pub or_dash : Option ℕ → List ℕ
or_dash None = codes "-"
or_dash (Some n) = decimal n

-- the rule's number of a label, if there is one
abbrev pub rule_of : Option Label → Option ℕ
rule_of label = option_map (λ x. x.rule) label

-- the place's number of a label, if there is one
abbrev pub place_of : Option Label → Option ℕ
place_of label = option_map (λ x. x.place) label

infixr 20 ◌␣◌
-- two words with a blank between them
abbrev pub ◌␣◌ : List ℕ → List ℕ → List ℕ
a ␣ b = a ++ (codes " " ++ b)

-- the line of a verdict
abbrev pub line_of : Verdict → List ℕ
line_of (Accepted rows tasks) = codes "accepted" ␣ decimal rows ␣ decimal tasks
line_of (Refused r) =
    codes "refused" ␣ decimal r.number ␣ letter r.layer ␣ or_dash r.position ␣ or_dash (rule_of r.label) ␣ or_dash (place_of r.label)
