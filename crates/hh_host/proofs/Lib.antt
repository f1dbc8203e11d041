mod ClockLaws
