mod Ending
mod PatternsCross
mod RulesCross
mod Shares
