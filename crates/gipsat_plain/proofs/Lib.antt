mod Refuting
