use Rattle.rules.specs.EachTask.{of_each_task}
use Rattle.rules.specs.Meaning.{Meaning}
use Rattle.task_rules.specs.Wanted.{Allocated, LongEnough, Unsplit, Released, OnTime}

-- rule 1, allocation
abbrev pub allocation_rule : Meaning
allocation_rule = of_each_task 1 (λ _ task row _. Allocated task row)

-- rule 2, duration
abbrev pub duration_rule : Meaning
duration_rule = of_each_task 2 (λ _ task row _. LongEnough task row)

-- rule 3, whole
abbrev pub whole_rule : Meaning
whole_rule = of_each_task 3 (λ _ task row _. Unsplit task row)

-- rule 5, release
abbrev pub release_rule : Meaning
release_rule = of_each_task 5 (λ _ task row _. Released task row)

-- rule 6, deadline
abbrev pub deadline_rule : Meaning
deadline_rule = of_each_task 6 (λ _ task row _. OnTime task row)
