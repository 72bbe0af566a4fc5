use Rattle.as2_commands.proofs.own.submit.Goals as goal

-- an option is added at a time
pub returns : goal.returns
returns c =
    let a1 = c.and-submit.ensures _ _ c.named-submit.ensures c.required_option.ensures.rule c.required_option.ensures.local in
    let a2 = c.and-submit-2.ensures _ _ a1 c.required_option-2.ensures.rule c.required_option-2.ensures.local in
    c.and.ensures _ _ a2 c.value.ensures.rule c.value.ensures.local
