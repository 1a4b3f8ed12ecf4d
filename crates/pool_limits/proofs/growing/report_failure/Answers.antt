use Rattle.pool_limits.proofs.growing.report_failure.Goals as goal

pub returns : goal.returns
returns g c = record {
  report = c.report-answer.result;
  answer = c.report-answer.ensures.answer;
  replies = c.ungrown.ensures;
  limiter = c.report-answer.ensures.limiter;
  exchange = c.report-answer.ensures.exchange;
}
